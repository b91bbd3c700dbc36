-- The bits of a stream: "Bits are read from bit 7 of the first byte".
use Rattle.std.specs.Prelude.{ℕ, zero, suc, ◌+◌, ◌*◌, ◌/◌, ◌%◌, ◌^◌, cond, List, [], ◌∷◌, ◌++◌, ◌==◌}

pub data Bit : Type 0 where
  O : Bit
  I : Bit

-- bit k of a number
abbrev pub bit_of : (k x : ℕ) → Bit
bit_of k x = cond (x / 2 ^ k % 2 == 0) O I

-- the lowest n bits of a number: they "come highest first"
unfoldable pub bits_of : (n x : ℕ) → List Bit
bits_of zero x = []
bits_of (suc n) x = bit_of n x ∷ bits_of n x

-- the number that bits are, behind `x`
abbrev pub number_of : (x : ℕ) → List Bit → ℕ
number_of x [] = x
number_of x (O ∷ bits) = number_of (2 * x) bits
number_of x (I ∷ bits) = number_of (2 * x + 1) bits

-- all bits of the bytes of a stream
unfoldable pub bits_in : List ℕ → List Bit
unfolding bits_of
bits_in [] = []
bits_in (byte ∷ bytes) = bits_of 8 byte ++ bits_in bytes

-- Bits of a number in two parts, and an item's bits as one number.
use Rattle.std.specs.Prelude.{◌≡◌, refl, List, ◌∷◌, ◌++◌, ℕ, zero, suc, ◌+◌, ◌-◌, ◌*◌, ◌/◌, ◌%◌, ◌^◌, ◌≤◌, ◌<◌, length, replicate}
use Rattle.std.proofs.Common.{sym, ap, ap₂, ◌∙◌, mod-lt, arith, pow_pos, shr-shr}
use Rattle.std.proofs.Math.Nat.{zero-div}
use Rattle.std.proofs.Math.Pow.{high, low, mod-mod-pow}
use Rattle.modules.specs.Definition.Bits.{Bit, O, bits_of, number_of}
use Rattle.modules.specs.Definition.Items.{item_bits}
use Rattle.modules.specs.Laws.Numbers.{bits-length, number-bits, bits_back}
use Rattle.modules.specs.declared.Item.{Item}
use Rattle.modules.specs.declared.Item.TheVariants.{Byte, Word, SetPage, Restore, Move}
use Rattle.writer.specs.Within.Codes.{width_of, code_of}

-- the lowest n bits are those of what is left below 2^n
pub bits-mod : (n x : ℕ) → bits_of n (x % 2 ^ n) ≡ bits_of n x
bits-mod n x =
    let e : number_of 0 (bits_of n x) ≡ x % 2 ^ n = number-bits n x 0 ∙ omega arith in
    ap (bits_of n) (sym e) ∙ bits_back n (bits_of n x) (bits-length n x)

-- the lowest n + m bits: n above the lowest m
pub bits-split : (n m x : ℕ) → bits_of (n + m) x ≡ bits_of n (x / 2 ^ m) ++ bits_of m x
unfolding bits_of
bits-split zero m x = let z : 0 + m ≡ m = omega arith in rw z
bits-split (suc n) m x =
    let s : suc n + m ≡ suc (n + m) = omega arith in
    let e : m + n ≡ n + m = omega arith in
    let q : x / 2 ^ m / 2 ^ n ≡ x / 2 ^ (n + m) = shr-shr x m n ∙ rw e in
    rw s (ap₂ (λ (b : Bit) (more : List Bit). b ∷ more) (rw q) (bits-split n m x))

-- a number of n bits and one of m behind it
pub bits-joined : (n m h x : ℕ) → x < 2 ^ m → bits_of (n + m) (h * 2 ^ m + x) ≡ bits_of n h ++ bits_of m x
bits-joined n m h x l =
    bits-split n m (h * 2 ^ m + x)
    ∙ ap₂ (λ (a b : List Bit). a ++ b) (ap (bits_of n) (high h m l)) (sym (bits-mod m (h * 2 ^ m + x)) ∙ ap (bits_of m) (low h m l))

-- bits above the lowest n do not matter
pub bits-low : (n m x : ℕ) → n ≤ m → bits_of n (x % 2 ^ m) ≡ bits_of n x
bits-low n m x h =
    let e : m ≡ m - n + n = omega arith in
    sym (bits-mod n (x % 2 ^ m)) ∙ ap (bits_of n) (rw e (mod-mod-pow x (m - n) n)) ∙ bits-mod n x

pub bits-zero : (n : ℕ) → bits_of n 0 ≡ replicate n O
unfolding bits_of
bits-zero zero = refl
bits-zero (suc n) = ap₂ (λ (b : Bit) (more : List Bit). b ∷ more) (rw (zero-div (2 ^ n))) (bits-zero n)

-- ---- an item's bits

-- `head` before a number of m bits
headed : (n m h x : ℕ) → bits_of (n + m) (h * 2 ^ m + x % 2 ^ m) ≡ bits_of n h ++ bits_of m x
headed n m h x = bits-joined n m h (x % 2 ^ m) (mod-lt x (pow_pos m)) ∙ ap (λ (l : List Bit). bits_of n h ++ l) (bits-mod m x)

pub item-bits : (i : Item) → item_bits i ≡ bits_of (width_of i) (code_of i)
unfolding item_bits bits_of
item-bits (Byte x) = let e : 0 + x % 256 ≡ x % 256 = omega arith in rw (← e) (sym (headed 1 8 0 x))
item-bits (Word x) = sym (headed 3 16 4 x)
item-bits (SetPage page) = sym (headed 5 2 20 page)
item-bits Restore = refl
item-bits (Move x) = sym (headed 4 16 11 x)

pub item-width : (i : Item) → length (item_bits i) ≡ width_of i
item-width i = ap length (item-bits i) ∙ bits-length (width_of i) (code_of i)

pub code_fits : (i : Item) → code_of i < 2 ^ width_of i
code_fits (Byte x) = omega arith
code_fits (Word x) = omega arith
code_fits (SetPage page) = omega arith
code_fits Restore = omega arith
code_fits (Move x) = omega arith

-- as the code finds it
module _ (i : Item) (x r : ℕ) (e : r ≡ x) where
  pub code-byte : i ≡ Byte x → r < 256 → r ≡ code_of i
  code-byte q h = rw q (omega arith)

  module _ (h : r < 65536) where
    pub code-word : i ≡ Word x → 262144 + r ≡ code_of i
    code-word q = rw q (omega arith)

    pub code-page : i ≡ SetPage x → 80 + r % 4 ≡ code_of i
    code-page q = rw q (omega arith)

    pub code-move : i ≡ Move x → 720896 + r ≡ code_of i
    code-move q = rw q (omega arith)

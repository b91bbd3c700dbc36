-- The reading of a stream, computed: "Items are taken until the end item, an illegal item or the end of input breaks off the reading."
use Rattle.std.specs.Prelude.{ℕ, zero, suc, cond, List, [], ◌∷◌, length, take, drop, nat_lt}
use Rattle.modules.specs.Definition.Bits.{Bit, O, I, number_of, bits_in}
use Rattle.modules.specs.declared.Item.{Item}
use Rattle.modules.specs.declared.Item.TheVariants.{Byte, Word, SetPage, Restore, Move}

-- what stands first in some bits, and the bits behind it
pub data First : Type 0 where
  item : Item → (rest : List Bit) → First
  ends : (rest : List Bit) → First
  illegal : First
  runs-out : First

-- an item with a number of n bits
unfoldable pub with_number : (n : ℕ) → (ℕ → Item) → List Bit → First
with_number n made bits = cond (nat_lt (length bits) n) runs-out (item (made (number_of 0 (take n bits))) (drop n bits))

-- "0 then 8 bits stores a byte; 100 then 16 stores a word; 10100 then 2 sets the run page; 10101 restores it; 1011 then 16 moves the counter; 110 ends;
-- 111 is illegal"
unfoldable pub first : List Bit → First
unfolding with_number
first (O ∷ bits) = with_number 8 (λ x. Byte x) bits
first (I ∷ O ∷ O ∷ bits) = with_number 16 (λ x. Word x) bits
first (I ∷ O ∷ I ∷ O ∷ O ∷ bits) = with_number 2 (λ x. SetPage x) bits
first (I ∷ O ∷ I ∷ O ∷ I ∷ bits) = item Restore bits
first (I ∷ O ∷ I ∷ I ∷ bits) = with_number 16 (λ x. Move x) bits
first (I ∷ I ∷ O ∷ bits) = ends bits
first (I ∷ I ∷ I ∷ bits) = illegal
first (I ∷ O ∷ I ∷ O ∷ []) = runs-out
first (I ∷ O ∷ I ∷ []) = runs-out
first (I ∷ O ∷ []) = runs-out
first (I ∷ I ∷ []) = runs-out
first (I ∷ []) = runs-out
first [] = runs-out

-- what broke off the reading; behind the end item stand its padding and what follows
pub data Break : Type 0 where
  end : (rest : List Bit) → Break
  illegal-item : Break
  end-of-input : Break

-- the items taken, and what broke off
pub record Taken : Type 0 where
  pub items : List Item
  pub break : Break

abbrev pub breaks_off : Break → Taken
breaks_off break = record { items = []; break = break }

abbrev pub behind : Item → Taken → Taken
behind i taken = record { items = i ∷ taken.items; break = taken.break }

abbrev pub taken_by : First → (List Bit → Taken) → Taken
taken_by (item i rest) more = behind i (more rest)
taken_by (ends rest) more = breaks_off (end rest)
taken_by illegal more = breaks_off illegal-item
taken_by runs-out more = breaks_off end-of-input

-- at most n items; every item has a bit, so that n bits hold no more
unfoldable pub taken_in : (n : ℕ) → List Bit → Taken
unfolding first
taken_in zero bits = breaks_off end-of-input
taken_in (suc n) bits = taken_by (first bits) (λ rest. taken_in n rest)

-- The order sets no length. b has 16 bits, so that of a stream 65,535 bytes are looked at (docs/DECISIONS.md, 58)
abbrev pub looked_at : List ℕ → List ℕ
looked_at stream = take 65535 stream

abbrev pub stream_bits : List ℕ → List Bit
stream_bits stream = bits_in (looked_at stream)

-- of a stream
abbrev pub taken_of : List ℕ → Taken
taken_of stream = taken_in (length (stream_bits stream)) (stream_bits stream)

-- What stands first in some bits: an item's own bits give it back, what was read stands there, and the reading takes it in one step.
use Rattle.std.specs.Prelude.{◌≡◌, ℕ, zero, suc, pred, ◌^◌, ◌<◌, ◌≤◌, Bool, true, false, cond, ltb, List, [], ◌∷◌, ◌++◌, length, take, drop, nat_lt, refl}
use Rattle.std.proofs.Common.{sym, ap, subst, ◌∙◌, append_assoc, not-suc-le-zero, arith, ltb-false, le-ltb, length-append, take-append-drop, length-take-le, take_at, drop_at}
use Rattle.modules.specs.Definition.Bits.{Bit, O, I, bits_of, number_of}
use Rattle.modules.specs.Definition.Items.{item_bits, end_bits, illegal_bits, Fits}
use Rattle.modules.specs.Definition.Reading.{First, item, ends, illegal, runs-out, with_number, first, taken_by, taken_in}
use Rattle.modules.specs.Definition.Faults.{RunsOut, Begins}
use Rattle.modules.specs.Laws.Numbers.{bits-length, number-back, bits_back, number_fits}
use Rattle.modules.specs.declared.Item.{Item}
use Rattle.modules.specs.declared.Item.TheVariants.{Byte, Word, SetPage, Restore, Move}

-- ---- an item's bits give it back

number-first : (n : ℕ) (made : ℕ → Item) (x : ℕ) (rest : List Bit) → x < 2 ^ n → with_number n made (bits_of n x ++ rest) ≡ item (made x) rest
unfolding with_number
number-first n made x rest h =
    let enough : ltb (length (bits_of n x ++ rest)) n ≡ false = le-ltb _ n (rw (length-append (bits_of n x) rest, bits-length n x) (omega arith)) in
    rw (enough, take_at (bits_of n x) rest n (bits-length n x), drop_at (bits_of n x) rest n (bits-length n x), number-back n x h)

pub first-item : (i : Item) (rest : List Bit) → Fits i → first (item_bits i ++ rest) ≡ item i rest
unfolding first item_bits
first-item (Byte x) rest h = number-first 8 (λ x. Byte x) x rest h
first-item (Word x) rest h = number-first 16 (λ x. Word x) x rest h
first-item (SetPage page) rest h = number-first 2 (λ x. SetPage x) page rest h
first-item Restore rest h = refl
first-item (Move x) rest h = number-first 16 (λ x. Move x) x rest h

pub first-end : (rest : List Bit) → first (end_bits ++ rest) ≡ ends rest
unfolding first
first-end rest = refl

pub first-illegal : (rest : List Bit) → first (illegal_bits ++ rest) ≡ illegal
unfolding first
first-illegal rest = refl

-- ---- what was read stands there

-- what it means that this is what stands first
abbrev pub Stands : List Bit → First → Type 0
Stands bits (item i rest) = Begins bits i rest
Stands bits (ends rest) = bits ≡ end_bits ++ rest
Stands bits illegal = (rest : List Bit) × (bits ≡ illegal_bits ++ rest)
Stands bits runs-out = Unit {0}

-- `head` is what an item has before its number
number-stands : (n : ℕ) (made : ℕ → Item) (head : List Bit) → ((x : ℕ) → x < 2 ^ n → Fits (made x)) → ((x : ℕ) → item_bits (made x) ≡ head ++ bits_of n x)
    → (bits : List Bit) → Stands (head ++ bits) (with_number n made bits)
unfolding with_number
number-stands n made head fits are bits = go (nat_lt (length bits) n) refl
  where
    enough : ltb (length bits) n ≡ false → length (take n bits) ≡ n
    enough e = length-take-le n bits (ltb-false (length bits) n e)

    whole : ltb (length bits) n ≡ false → head ++ bits ≡ item_bits (made (number_of 0 (take n bits))) ++ drop n bits
    whole e = rw (are (number_of 0 (take n bits)), bits_back n (take n bits) (enough e), append_assoc, take-append-drop)

    go : (b : Bool) → nat_lt (length bits) n ≡ b → Stands (head ++ bits) (cond b runs-out (item (made (number_of 0 (take n bits))) (drop n bits)))
    go true e = tt
    go false e = record { fits = fits _ (number_fits n (take n bits) (enough e)); are = whole e }

pub first-stands : (bits : List Bit) → Stands bits (first bits)
unfolding first item_bits
first-stands (O ∷ bits) = number-stands 8 (λ x. Byte x) (O ∷ []) (λ x h. h) (λ x. refl) bits
first-stands (I ∷ O ∷ O ∷ bits) = number-stands 16 (λ x. Word x) (I ∷ O ∷ O ∷ []) (λ x h. h) (λ x. refl) bits
first-stands (I ∷ O ∷ I ∷ O ∷ O ∷ bits) = number-stands 2 (λ x. SetPage x) (I ∷ O ∷ I ∷ O ∷ O ∷ []) (λ x h. h) (λ x. refl) bits
first-stands (I ∷ O ∷ I ∷ O ∷ I ∷ bits) = record { fits = tt; are = refl }
first-stands (I ∷ O ∷ I ∷ I ∷ bits) = number-stands 16 (λ x. Move x) (I ∷ O ∷ I ∷ I ∷ []) (λ x h. h) (λ x. refl) bits
first-stands (I ∷ I ∷ O ∷ bits) = refl
first-stands (I ∷ I ∷ I ∷ bits) = (bits, refl)
first-stands (I ∷ O ∷ I ∷ O ∷ []) = tt
first-stands (I ∷ O ∷ I ∷ []) = tt
first-stands (I ∷ O ∷ []) = tt
first-stands (I ∷ I ∷ []) = tt
first-stands (I ∷ []) = tt
first-stands [] = tt

pub item-stands : (bits : List Bit) (i : Item) (rest : List Bit) → first bits ≡ item i rest → Begins bits i rest
item-stands bits i rest e = subst (λ (f : First). Stands bits f) e (first-stands bits)

pub end-stands : (bits rest : List Bit) → first bits ≡ ends rest → bits ≡ end_bits ++ rest
end-stands bits rest e = subst (λ (f : First). Stands bits f) e (first-stands bits)

pub illegal-stands : (bits : List Bit) → first bits ≡ illegal → (rest : List Bit) × (bits ≡ illegal_bits ++ rest)
illegal-stands bits e = subst (λ (f : First). Stands bits f) e (first-stands bits)

-- ---- "input that runs out"

abbrev Found : First → Type 0
Found (item i rest) = Unit {0}
Found (ends rest) = Unit {0}
Found illegal = Unit {0}
Found runs-out = ⊥

pub short-runs-out : (bits : List Bit) → first bits ≡ runs-out → RunsOut bits
short-runs-out bits e = record {
  no_item = λ i rest h q. subst Found (sym (ap first q ∙ first-item i rest h) ∙ e) tt;
  no_end = λ rest q. subst Found (sym (ap first q ∙ first-end rest) ∙ e) tt;
  no-illegal = λ rest q. subst Found (sym (ap first q ∙ first-illegal rest) ∙ e) tt;
}

pub runs-out-short : (bits : List Bit) → RunsOut bits → first bits ≡ runs-out
runs-out-short bits h = go (first bits) (first-stands bits)
  where
    go : (f : First) → Stands bits f → f ≡ runs-out
    go (item i rest) s = absurd (h.no_item i rest s.fits s.are)
    go (ends rest) s = absurd (h.no_end rest s)
    go illegal s = absurd (h.no-illegal s.0 s.1)
    go runs-out s = refl

-- ---- one step of the reading

-- what is taken of some bits, where there are as many steps as bits
pub taken_step : (n : ℕ) (bits : List Bit) → length bits ≤ n → taken_in n bits ≡ taken_by (first bits) (λ rest. taken_in (pred n) rest)
unfolding taken_in
taken_step zero [] h = refl
taken_step zero (b ∷ bits) h = absurd (not-suc-le-zero h)
taken_step (suc n) bits h = refl

item-some : (i : Item) → 0 < length (item_bits i)
unfolding item_bits
item-some (Byte x) = omega arith
item-some (Word x) = omega arith
item-some (SetPage page) = omega arith
item-some Restore = omega arith
item-some (Move x) = omega arith

-- every item has a bit, so that a step less is enough behind it
pub begins-less : {bits : List Bit} {i : Item} {rest : List Bit} (n : ℕ) → Begins bits i rest → length bits ≤ n → length rest ≤ pred n
begins-less {i = i} {rest = rest} n b h = omega (arith, item-some i, ap length b.are ∙ length-append (item_bits i) rest)

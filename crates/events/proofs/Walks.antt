-- A log walked from its front: what is left of it, record by record.
use Rattle.std.specs.Prelude.{◌≡◌, List, ℕ, ◌+◌, ◌-◌, ◌≤◌, length, take, drop, Ok}
use Rattle.std.proofs.Common.{sym, ap, ◌∙◌, arith, length-take, length-drop, drop-drop, take_all}
use Rattle.events.specs.declared.Record.{Record}
use Rattle.events.specs.Definition.Records.{front_of, body_of, rest_of}
use Rattle.events.specs.Laws.Front.{whole}

-- the record at the front is there, whole, and its body is no longer than one may be
pub record_fits : (left : List ℕ) (r : Record) → Ok r ≡ front_of left → 4 + r.size ≤ length left
record_fits left r e = (whole left r (sym e)).fits

pub body_short : (left : List ℕ) (r : Record) → Ok r ≡ front_of left → length (take (4 + r.size - 4) (drop 4 left)) ≤ 4094
body_short left r e = omega (arith, (whole left r (sym e)).most, length-take (4 + r.size - 4) (drop 4 left))

-- `left` is the end of the input
pub record Behind (input left : List ℕ) : Type 0 where
  pub short : length left ≤ length input
  pub is : drop (length input - length left) input ≡ left

pub all_left : (input : List ℕ) → Behind input input
all_left input = record { short = omega arith; is = let e : length input - length input ≡ 0 = omega arith in rw e }

pub rest_left : {input left : List ℕ} (r : Record) → Behind input left → Ok r ≡ front_of left → Behind input (rest_of left r.size)
rest_left {input} {left} r b e =
    let fits = record_fits left r e in
    let size = length-drop (4 + r.size) left in
    let at : length input - length (rest_of left r.size) ≡ length input - length left + (4 + r.size) = omega (arith, fits, size, b.short) in
    record {
      short = omega (arith, size, b.short);
      is = rw at (sym (drop-drop (4 + r.size) (length input - length left) input) ∙ ap (drop (4 + r.size)) b.is);
    }

-- the record's body and what follows it, as the code takes them
pub body_taken : (left : List ℕ) (r : Record) → take (4 + r.size - 4) (drop 4 left) ≡ body_of left r.size
body_taken left r = let e : 4 + r.size - 4 ≡ r.size = omega arith in rw e

pub rest_taken : (left : List ℕ) (r : Record) → take (length left - (4 + r.size)) (drop (4 + r.size) left) ≡ rest_of left r.size
rest_taken left r = take_all _ _ (rw length-drop (omega arith))

-- A module without fault: what its items pass, all that they store has; it lies below what the user reaches.
use Rattle.std.specs.Prelude.{◌≡◌, ℕ, ◌+◌, ◌<◌, ◌≤◌, Bool, true, false, cond, List, [], ◌∷◌, ◌++◌, ◌==◌, refl, Result, Ok, Err}
use Rattle.std.proofs.Common.{sym, arith, ltb-false}
use Rattle.std.proofs.lemmas.Bool.{false≢true}
use Rattle.modules.specs.Definition.Reading.{taken_of}
use Rattle.modules.specs.Definition.Counter.{after, Put, puts_at, puts_of}
use Rattle.modules.specs.Definition.Judging.{outside, above, touches, fault_or, judged_or, judged_at, judged, refusal_of}
use Rattle.modules.specs.declared.Item.{Item}
use Rattle.modules.specs.declared.Item.TheVariants.{Byte, Word, SetPage, Restore, Move}
use Rattle.modules.specs.declared.Counter.{Counter}
use Rattle.modules.specs.declared.Target.{Target}
use Rattle.modules.specs.declared.Refusal.{Refusal}
use Rattle.modules.specs.declared.Refusal.TheVariants.{Module, Page, Range, Guard}

-- every byte put has P
abbrev pub Every : (Put → Type 0) → List Put → Type 0
Every P [] = Unit {0}
Every P (p ∷ puts) = P p × Every P puts

every_append : (P : Put → Type 0) (ps qs : List Put) → Every P ps → Every P qs → Every P (ps ++ qs)
every_append P [] qs a b = b
every_append P (p ∷ ps) qs a b = (a.0, every_append P ps qs a.1 b)

-- an item's fault, by the tests on the way: where there is none, all three passed and what follows is without fault
pub record Passed (g : Target) (c : Counter) (i : Item) (else : Result ℕ Refusal) : Type 0 where
  pub inside : outside c i ≡ false
  pub below : above g c i ≡ false
  pub clear : touches g c i ≡ false
  pub else-whole : refusal_of else ≡ 0

passed-by : (o a t : Bool) (else : Result ℕ Refusal) → refusal_of (cond o (Err Page) (cond a (Err Range) (cond t (Err Guard) else))) ≡ 0
    → (o ≡ false) × (a ≡ false) × (t ≡ false) × (refusal_of else ≡ 0)
passed-by true a t else e = absurd (omega arith)
passed-by false true t else e = absurd (omega arith)
passed-by false false true else e = absurd (omega arith)
passed-by false false false else e = (refl, refl, refl, e)

pub passed : (g : Target) (c : Counter) (i : Item) (else : Result ℕ Refusal) → refusal_of (fault_or g c i else) ≡ 0 → Passed g c i else
passed g c i else e =
    let h = passed-by (outside c i) (above g c i) (touches g c i) else e in
    record { inside = h.0; below = h.1; clear = h.2; else-whole = h.3 }

-- what every item that passed gives its bytes, all bytes have
module _ (P : Put → Type 0) (g : Target) (item-has : (c : Counter) (i : Item) → above g c i ≡ false → touches g c i ≡ false → Every P (puts_at c i)) where
  items-have : (c : Counter) (items : List Item) (else : Result ℕ Refusal) → refusal_of (judged_or g c items else) ≡ 0 → Every P (puts_of g.page c items)
  unfolding judged_or
  items-have c [] else e = tt
  items-have c (i ∷ items) else e =
      let h = passed g c i (judged_or g (after g.page c i) items else) e in
      every_append P (puts_at c i) (puts_of g.page (after g.page c i) items) (item-has c i h.below h.clear)
      (items-have (after g.page c i) items else h.else-whole)

  pub stored-have : (c : Counter) (stream : List ℕ) → refusal_of (judged g c stream) ≡ 0 → Every P (puts_of g.page c (taken_of stream).items)
  unfolding judged
  stored-have c stream e = items-have c (taken_of stream).items (judged_at _ (taken_of stream).break) e

-- every byte is put below an offset
abbrev pub Below : ℕ → List Put → Type 0
Below reach = Every (λ p. p.offset < reach)

item-below : (g : Target) (c : Counter) (i : Item) → above g c i ≡ false → Below g.reach (puts_at c i)
item-below g c (Byte x) e = let h : c.offset + 1 ≤ g.reach = ltb-false _ _ e in (omega arith, tt)
item-below g c (Word x) e = let h : c.offset + 2 ≤ g.reach = ltb-false _ _ e in (omega arith, (omega arith, tt))
item-below g c (SetPage page) e = tt
item-below g c Restore e = tt
item-below g c (Move x) e = tt

pub stored-below : (g : Target) (c : Counter) (stream : List ℕ) → refusal_of (judged g c stream) ≡ 0 → Below g.reach (puts_of g.page c (taken_of stream).items)
stored-below g c stream e = stored-have (λ p. p.offset < g.reach) g (λ c i h _. item-below g c i h) c stream e

-- what is refused for none of the four numbers is whole
pub none-refuses : (j : Result ℕ Refusal) → (refusal_of j == 13) ≡ false → (refusal_of j == 14) ≡ false → (refusal_of j == 19) ≡ false → (refusal_of j == 20) ≡ false
    → refusal_of j ≡ 0
none-refuses (Ok b) range guard bad page = refl
none-refuses (Err Module) range guard bad page = absurd (false≢true (sym bad))
none-refuses (Err Page) range guard bad page = absurd (false≢true (sym page))
none-refuses (Err Range) range guard bad page = absurd (false≢true (sym range))
none-refuses (Err Guard) range guard bad page = absurd (false≢true (sym guard))

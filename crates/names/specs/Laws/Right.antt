-- The computed reading is the grammar's: it reads, it finds every reading, so a string has at most one, and none exactly where the rules are broken.
use Rattle.std.specs.Prelude.{ℕ, suc, ◌+◌, ◌≤◌, ◌<◌, ◌≡◌, refl, Bool, true, false, cond, ◌⊎◌, length, get_or, take, drop, leb, eqb}
use Rattle.std.proofs.Common.{sym, ◌∙◌, length-append, length-take, take-append-drop, le-leb, leb-true, eq-eqb, eqb-true, ne_eqb, arith, add-one}
use Rattle.std.proofs.Math.Path.{subst}
use Rattle.std.proofs.Math.Logic.{inl, inr}
use mathlib.Core.List.{List, [], ◌∷◌, ◌++◌, append_assoc, append-nil}
use Rattle.std.proofs.Math.Option.{Option, none, some}
use Rattle.std.proofs.Math.Seq.{split_at, take-append_seam, drop-append_seam, drop-append-add}
use Rattle.std.proofs.lemmas.Bool.{eqb-false, not-false}
use Rattle.names.specs.Definition.Grammar.{All, FileByte, UnitPart, no-unit, plain, dashed, Reading, file-only, full, unit-text, spell, DeviceRule, DigitsRule, UnitRule, FileRule, Rule, Reads}
use Rattle.names.specs.Definition.Tests.{run_of, file_test}
use Rattle.names.specs.Definition.Read.{digits_test, with_digits, with_unit, with_head, with_colon, without_colon, reading}
use Rattle.names.specs.Laws.Runs.{KindRule, run-le, run-front, run-next, run-all, run-stop, file-right, file-finds}
use Rattle.names.specs.Laws.Numbers.{digits-finds, digits-hold}
use Rattle.names.specs.declared.Kind.TheVariants.{Letter, Digit, BeforeColon}

-- ---- every reading is found

all-file : (bs : List ℕ) → All FileByte bs → All (KindRule BeforeColon) bs
all-file [] h = tt
all-file (b ∷ bs) h = (h.0.2, all-file bs h.1)

all-digit : (bs : List ℕ) → All (KindRule Digit) bs → All (KindRule BeforeColon) bs
all-digit [] h = tt
all-digit (b ∷ bs) h = (λ e. omega arith, all-digit bs h.1)

unit-before : (u : UnitPart) → UnitRule u → All (KindRule BeforeColon) (unit-text u)
unit-before no-unit h = tt
unit-before (plain ds) h = all-digit ds h.1
unit-before (dashed ds) h = (λ e. omega arith, all-digit ds h.1)

-- neither letters nor the unit have a colon
head-before : (d : List ℕ) (u : UnitPart) → All (KindRule Letter) d → UnitRule u → All (KindRule BeforeColon) (d ++ unit-text u)
head-before [] u a h = unit-before u h
head-before (b ∷ d) u a h = (λ e. elim a.0 [ inl x ↦ omega arith | inr x ↦ omega arith ], head-before d u a.1 h)

not-letter : (b : ℕ) → b < 65 → ¬ KindRule Letter b
not-letter b h l = elim l [ inl x ↦ omega arith | inr x ↦ omega arith ]

letters-end : (d : List ℕ) (u : UnitPart) → All (KindRule Letter) d → UnitRule u → run_of Letter (d ++ unit-text u) ≡ length d
letters-end d no-unit a h = rw append-nil (run-all Letter d a)
letters-end d (plain []) a h = absurd (omega arith)
letters-end d (plain (x ∷ ds)) a h = run-stop Letter d x ds a (not-letter x (omega arith))
letters-end d (dashed ds) a h = run-stop Letter d 45 ds a (not-letter 45 (omega arith))

digits-found : (d : List ℕ) (u : UnitPart) (ds f : List ℕ) → DigitsRule ds → with_digits d u ds f ≡ some (full d u f)
unfolding with_digits
digits-found d u ds f h = rw (digits-finds ds h)

unit-found : (d : List ℕ) (u : UnitPart) (f : List ℕ) → UnitRule u → with_unit d (unit-text u) f ≡ some (full d u f)
unfolding with_unit
unit-found d no-unit f h = refl
unit-found d (plain []) f h = absurd (omega arith)
unit-found d (plain (x ∷ ds)) f h =
    rw (ne_eqb (suc (length ds)) 0 (λ e. omega arith), ne_eqb x 45 (λ e. omega arith)) (digits-found d (plain (x ∷ ds)) (x ∷ ds) f h)
unit-found d (dashed ds) f h = rw (ne_eqb (suc (length ds)) 0 (λ e. omega arith)) (digits-found d (dashed ds) ds f h)

head-found : (d : List ℕ) (u : UnitPart) (f : List ℕ) → DeviceRule d → UnitRule u → with_head (d ++ unit-text u) f ≡ some (full d u f)
unfolding with_head
head-found d u f a h =
    rw (letters-end d u a.0 h, le-leb (length d) 28 a.1, take-append_seam d (unit-text u), drop-append_seam d (unit-text u))
    (unit-found d u f h)

-- what comes before the first colon, and what after it
colon-found : (head f : List ℕ) → All (KindRule BeforeColon) head → length (head ++ (58 ∷ f)) ≤ 255 → FileRule f
    → reading (head ++ (58 ∷ f)) ≡ with_head head f
unfolding reading with_colon
colon-found head f a l h =
    let s = head ++ (58 ∷ f) in
    let n : run_of BeforeColon s ≡ length head = run-stop BeforeColon head 58 f a (λ k. k refl) in
    let before : take (run_of BeforeColon s) s ≡ head = rw n (take-append_seam head (58 ∷ f)) in
    let after : drop (run_of BeforeColon s + 1) s ≡ f = rw n (drop-append-add head (58 ∷ f) 1) in
    let some-colon : run_of BeforeColon s ≡ length s → ⊥ = λ e. omega (arith, length-append head (58 ∷ f)) in
    rw (le-leb (length s) 255 l, ne_eqb (run_of BeforeColon s) (length s) some-colon, after, before, file-finds f h)

reads-found : (r : Reading) → length (spell r) ≤ 255 → Rule r → reading (spell r) ≡ some r
unfolding reading without_colon
reads-found (file-only f) l h =
    rw (le-leb (length f) 255 l, eq-eqb (run_of BeforeColon f) (length f) (run-all BeforeColon f (all-file f h.0)), file-finds f h)
reads-found (full d u f) l h =
    let (device, unit, file) = h in
    let e : d ++ (unit-text u ++ (58 ∷ f)) ≡ d ++ unit-text u ++ (58 ∷ f) = sym (append_assoc d (unit-text u) (58 ∷ f)) in
    rw e (colon-found (d ++ unit-text u) f (head-before d u device.0 unit) (rw (← e) l) file ∙ head-found d u f device unit)

pub reading-finds : (s : List ℕ) (r : Reading) → Reads s r → reading s ≡ some r
reading-finds s r h = rw (← h.spelled) (reads-found r (rw h.spelled h.short) h.rule)

-- A string has at most one reading.
pub reads-one : (s : List ℕ) (r q : Reading) → Reads s r → Reads s q → r ≡ q
reads-one s r q a b =
    let e : some r ≡ some q = sym (reading-finds s r a) ∙ reading-finds s q b in
    cc

-- ---- what is found reads

-- what a reading has to be of a string, its length aside
abbrev Spelled : List ℕ → Reading → Type 0
Spelled s r = Rule r × (spell r ≡ s)

cond-some : (t : Bool) (x : Option Reading) (r : Reading) → cond t x none ≡ some r → (t ≡ true) × (x ≡ some r)
cond-some true x r e = (refl, e)
cond-some false x r e = let z : ◌≡◌ {A = ℕ} 0 1 = cc in absurd (omega arith)

cond_either : (t : Bool) (x y z : Option Reading) → cond t x y ≡ z → ((t ≡ true) × (x ≡ z)) ⊎ ((t ≡ false) × (y ≡ z))
cond_either true x y z e = inl (refl, e)
cond_either false x y z e = inr (refl, e)

digits-right : (d : List ℕ) (u : UnitPart) (ds f : List ℕ) (r : Reading) → with_digits d u ds f ≡ some r → DigitsRule ds × (full d u f ≡ r)
unfolding with_digits
digits-right d u ds f r e =
    let (passed, found) = cond-some (digits_test ds) (some (full d u f)) r e in
    (digits-hold ds passed, cc)

module _ (d f : List ℕ) (device : DeviceRule d) (file : FileRule f) where
  unit-right : (rest : List ℕ) (r : Reading) → with_unit d rest f ≡ some r → Spelled (d ++ (rest ++ (58 ∷ f))) r
  unfolding with_unit
  unit-right [] r e =
      let same : full d no-unit f ≡ r = cc in
      subst (Spelled (d ++ (58 ∷ f))) same ((device, tt, file), refl)
  unit-right (x ∷ rest) r e =
      let by-dash = rw (ne_eqb (suc (length rest)) 0 (λ z. omega arith)) at e in
      elim (cond_either (eqb x 45) (with_digits d (dashed rest) rest f) (with_digits d (plain (x ∷ rest)) (x ∷ rest) f) (some r) by-dash) [
        | inl (t, g) ↦
            let (rule, same) = digits-right d (dashed rest) rest f r g in
            subst (Spelled (d ++ (x ∷ rest ++ (58 ∷ f)))) same ((device, rule, file), rw (eqb-true x 45 t))
        | inr (t, g) ↦
            let (rule, same) = digits-right d (plain (x ∷ rest)) (x ∷ rest) f r g in
            subst (Spelled (d ++ (x ∷ rest ++ (58 ∷ f)))) same ((device, rule, file), refl)
      ]

head-right : (head f : List ℕ) (r : Reading) → FileRule f → with_head head f ≡ some r → Spelled (head ++ (58 ∷ f)) r
unfolding with_head
head-right head f r file e =
    let n = run_of Letter head in
    let (low, found) = cond-some (leb n 28) (with_unit (take n head) (drop n head) f) r e in
    let device : DeviceRule (take n head) = (run-front Letter head, omega (arith, length-take n head, leb-true n 28 low)) in
    let s : take n head ++ (drop n head ++ (58 ∷ f)) ≡ head ++ (58 ∷ f) = rw (← append_assoc, take-append-drop n head) in
    rw s at (unit-right (take n head) f device file (drop n head) r found)

-- the byte after the run before the colon is the colon
colon-at : (s : List ℕ) → run_of BeforeColon s < length s → s ≡ take (run_of BeforeColon s) s ++ (58 ∷ drop (run_of BeforeColon s + 1) s)
colon-at s h =
    let n = run_of BeforeColon s in
    let colon : get_or s n 0 ≡ 58 = eqb-true (get_or s n 0) 58 (not-false (eqb (get_or s n 0) 58) (run-next BeforeColon s h)) in
    rw (add-one n, ← colon) (split_at s n 0 h)

pub reading-right : (s : List ℕ) (r : Reading) → reading s ≡ some r → Reads s r
unfolding reading with_colon without_colon
reading-right s r e =
    let n = run_of BeforeColon s in
    let (low, found) = cond-some (leb (length s) 255) (cond (eqb n (length s)) (without_colon s) (with_colon (take n s) (drop (n + 1) s))) r e in
    let fits : Spelled s r =
    elim (cond_either (eqb n (length s)) (without_colon s) (with_colon (take n s) (drop (n + 1) s)) (some r) found) [
      | inl (t, g) ↦
          let (file, x) = cond-some (file_test s) (some (file-only s)) r g in
          let same : file-only s ≡ r = cc in
          subst (Spelled s) same (file-right s file, refl)
      | inr (t, g) ↦
          let (file, x) = cond-some (file_test (drop (n + 1) s)) (with_head (take n s) (drop (n + 1) s)) r g in
          let inside : n < length s = omega (arith, run-le BeforeColon s, eqb-false n (length s) t) in
          rw (← colon-at s inside) at (head-right (take n s) (drop (n + 1) s) r (file-right (drop (n + 1) s) file) x)
    ] in
    record { short = leb-true (length s) 255 low; rule = fits.0; spelled = fits.1 }

-- NAME: there is no reading exactly where none is found.
pub unread-right : (s : List ℕ) → reading s ≡ none → (r : Reading) → ¬ Reads s r
unread-right s e r h = let f = reading-finds s r h in let z : ◌≡◌ {A = ℕ} 0 1 = cc in omega arith

pub unread-finds : (s : List ℕ) → ((r : Reading) → ¬ Reads s r) → reading s ≡ none
unread-finds s h = go (reading s) refl
  where
    go : (o : Option Reading) → reading s ≡ o → reading s ≡ none
    go none e = e
    go (some r) e = absurd (h r (reading-right s r e))

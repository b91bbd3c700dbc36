-- Laws of a unit's number, and that it is found exactly where the rule on digits holds.
use Rattle.std.specs.Prelude.{ℕ, zero, suc, ◌+◌, ◌*◌, ◌-◌, ◌≤◌, ◌<◌, ◌≡◌, true, ◌&&◌, List, [], ◌∷◌, length, get_or, drop, leb, cond, Some, None}
use Rattle.std.proofs.Common.{drop_of_length-le, drop-cons, le-leb, leb-true, arith}
use Rattle.std.proofs.Math.Bool.{and-eq-true_iff}
use Rattle.std.proofs.lemmas.Bool.{lt-leb}
use Rattle.names.specs.Definition.Grammar.{All, value, DigitsRule}
use Rattle.names.specs.Definition.Tests.{all_of}
use Rattle.names.specs.Definition.Read.{digits_test}
use Rattle.names.specs.Laws.Runs.{all_right, all-finds}
use Rattle.names.specs.declared.Kind.TheVariants.{Digit}

-- reading on makes a number no smaller
value_grows : (n : ℕ) (ds : List ℕ) → n ≤ value n ds
value_grows n [] = omega arith
value_grows n (d ∷ ds) = omega (arith, value_grows (10 * n + (d - 48)) ds)

-- ---- a value, read digit by digit

-- past 255 it stays past 255
pub value-over : (ds : List ℕ) (i n v : ℕ) → i < length ds → value n (drop i ds) ≡ v → 255 < 10 * n + (get_or ds i 0 - 48)
    → None ≡ cond (leb v 255) (Some v) None
value-over ds i n v h e l =
    let next = 10 * n + (get_or ds i 0 - 48) in
    let on : value next (drop (suc i) ds) ≡ v = rw (drop-cons ds i 0 h) at e in
    rw (lt-leb v 255 (omega (arith, value_grows next (drop (suc i) ds))))

pub value-ends : (ds : List ℕ) (i n v : ℕ) → length ds ≤ i → n ≤ 255 → value n (drop i ds) ≡ v → Some n ≡ cond (leb v 255) (Some v) None
value-ends ds i n v h l e =
    let same : n ≡ v = rw (drop_of_length-le ds h) at e in
    rw (le-leb v 255 (omega arith), same)

pub all-at : (P : ℕ → Type 0) (bs : List ℕ) (i : ℕ) → All P bs → i < length bs → P (get_or bs i 0)
all-at P [] i a h = absurd (omega arith)
all-at P (b ∷ bs) zero a h = a.0
all-at P (b ∷ bs) (suc i) a h = all-at P bs i a.1 (omega arith)

-- ---- the test and the rule

pub digits-finds : (ds : List ℕ) → DigitsRule ds → digits_test ds ≡ true
unfolding digits_test
digits-finds ds h = rw (le-leb 1 (length ds) h.0, all-finds Digit ds h.1, le-leb (value 0 ds) 255 h.2)

pub digits-hold : (ds : List ℕ) → digits_test ds ≡ true → DigitsRule ds
unfolding digits_test
digits-hold ds e =
    let (both, r) = (and-eq-true_iff (leb 1 (length ds) && all_of Digit ds) (leb (value 0 ds) 255)).0 e in
    let (p, q) = (and-eq-true_iff (leb 1 (length ds)) (all_of Digit ds)).0 both in
    (leb-true 1 (length ds) p, all_right Digit ds q, leb-true (value 0 ds) 255 r)

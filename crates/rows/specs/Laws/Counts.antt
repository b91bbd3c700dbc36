-- Counts: how often a number stands in a list, after a store, and over all rows.
use Rattle.std.specs.Prelude.{◌≡◌, refl, Bool, true, false, cond, List, [], ◌∷◌, ◌++◌, Some, None, ℕ, zero, suc, ◌+◌, ◌≤◌, ◌<◌, eqb, length, get_or, take, drop, set}
use Rattle.std.proofs.Common.{ap, sym, ◌∙◌, suc-le-suc, le_of_suc-le-suc, not-suc-le-zero, arith, eq-eqb, ne_eqb, eqb-true, take-append-drop, take-suc}
use Rattle.std.proofs.lemmas.Bool.{false≢true}
use Rattle.std.proofs.lemmas.List.Recursion.{is_sum_by}
use Rattle.std.proofs.Math.Decide.{dec_le, ℕ_discrete}
use Rattle.std.specs.List.{count_by}
use Rattle.rows.specs.Definition.Lists.{tally, last_of, first_place, sum_to}
use Rattle.rows.specs.Laws.Lists.{where_found, where-absent}

-- 1 if x is k
abbrev pub one : ℕ → ℕ → ℕ
one k x = cond (eqb x k) 1 0

pub one-yes : (k x : ℕ) → x ≡ k → one k x ≡ 1
one-yes k x e = rw (eq-eqb x k e)

pub one-no : (k x : ℕ) → (x ≡ k → ⊥) → one k x ≡ 0
one-no k x e = rw (ne_eqb x k e)

pub tally-append : (k : ℕ) (xs ys : List ℕ) → tally k (xs ++ ys) ≡ tally k xs + tally k ys
tally-append k [] ys = omega arith
tally-append k (x ∷ xs) ys = omega (arith, tally-append k xs ys)

pub tally-suc : (k : ℕ) (xs : List ℕ) (i : ℕ) → i < length xs → tally k (take (suc i) xs) ≡ tally k (take i xs) + one k (get_or xs i 0)
tally-suc k xs i h = rw (take-suc xs i 0 h) (omega (arith, tally-append k (take i xs) (get_or xs i 0 ∷ [])))

pub tally-set : (k : ℕ) (xs : List ℕ) (i v : ℕ) → i < length xs → tally k (set xs i v) + one k (get_or xs i 0) ≡ tally k xs + one k v
tally-set k [] i v h = absurd (not-suc-le-zero h)
tally-set k (x ∷ xs) zero v h = omega arith
tally-set k (x ∷ xs) (suc i) v h = omega (arith, tally-set k xs i v (le_of_suc-le-suc h))

-- what stands at a place is counted
pub tally-some : (k : ℕ) (xs : List ℕ) (i : ℕ) → i < length xs → get_or xs i 0 ≡ k → 1 ≤ tally k xs
tally-some k [] i h e = absurd (not-suc-le-zero h)
tally-some k (x ∷ xs) zero h e = omega (arith, one-yes k x e)
tally-some k (x ∷ xs) (suc i) h e = omega (arith, tally-some k xs i (le_of_suc-le-suc h) e)

-- where some k is, last_of says where
pub record Found (k : ℕ) (xs : List ℕ) : Type 0 where
  pub place : ℕ
  pub is : last_of k xs ≡ Some place
  pub within : place < length xs
  pub here : get_or xs place 0 ≡ k

pub last-zero : (k : ℕ) (xs : List ℕ) → tally k xs ≡ 0 → last_of k xs ≡ None
last-zero k [] e = refl
last-zero k (x ∷ xs) e =
    let z : tally k xs ≡ 0 = omega arith in
    elim (ℕ_discrete x k) [
      | yes q ↦ absurd (omega (arith, one-yes k x q))
      | no q ↦ rw (last_of, last-zero k xs z, ne_eqb x k q)
    ]

pub last_found : (k : ℕ) (xs : List ℕ) → 1 ≤ tally k xs → Found k xs
last_found k [] h = absurd (not-suc-le-zero h)
last_found k (x ∷ xs) h =
    elim (dec_le 1 (tally k xs)) [
      | yes g ↦
          let f = last_found k xs g in
          record { place = suc f.place; is = rw (last_of, f.is); within = suc-le-suc f.within; here = f.here }
      | no g ↦
          elim (ℕ_discrete x k) [
            | yes q ↦ record { place = 0; is = rw (last_of, last-zero k xs (omega arith), eq-eqb x k q); within = omega arith; here = q }
            | no q ↦ absurd (omega (arith, one-no k x q))
          ]
    ]

pub sum_same : (n : ℕ) (f g : ℕ → ℕ) → ((i : ℕ) → i < n → f i ≡ g i) → sum_to n f ≡ sum_to n g
sum_same zero f g e = refl
sum_same (suc n) f g e = rw (sum_same n f g (λ i h. e i (omega arith)), e n (omega arith))

pub sum-plus : (n : ℕ) (f g : ℕ → ℕ) → sum_to n (λ i. f i + g i) ≡ sum_to n f + sum_to n g
sum-plus zero f g = refl
sum-plus (suc n) f g = omega (arith, sum-plus n f g)

pub sum-zero : (n : ℕ) (f : ℕ → ℕ) → ((i : ℕ) → i < n → f i ≡ 0) → sum_to n f ≡ 0
sum-zero zero f e = refl
sum-zero (suc n) f e = omega (arith, sum-zero n f (λ i h. e i (omega arith)), e n (omega arith))

-- a number below n is met once
pub sum-once : (n x : ℕ) → x < n → sum_to n (λ r. one r x) ≡ 1
sum-once zero x h = absurd (not-suc-le-zero h)
sum-once (suc n) x h =
    elim (ℕ_discrete x n) [
      | yes q ↦ omega (arith, one-yes n x q, sum-zero n (λ r. one r x) (λ i g. one-no i x (λ w. omega arith)))
      | no q ↦ omega (arith, one-no n x q, sum-once n x (omega arith))
    ]

-- counting a list by its members counts it: no pigeonhole
pub sum-tally : (n : ℕ) (xs : List ℕ) → ((i : ℕ) → i < length xs → get_or xs i 0 < n) → sum_to n (λ r. tally r xs) ≡ length xs
sum-tally n [] b = sum-zero n (λ r. 0) (λ i h. refl)
sum-tally n (x ∷ xs) b =
    omega (arith, sum-plus n (λ r. one r x) (λ r. tally r xs), sum-once n x (b 0 (omega arith)), sum-tally n xs (λ i h. b (suc i) (suc-le-suc h)))

-- a count over the first n is a sum over the rows
pub tally-sum : (k n : ℕ) (xs : List ℕ) → n ≤ length xs → tally k (take n xs) ≡ sum_to n (λ i. one k (get_or xs i 0))
tally-sum k zero xs h = refl
tally-sum k (suc n) xs h = omega (arith, tally-suc k xs n h, tally-sum k n xs (omega arith))

pub cond-most : (b : Bool) → cond {A = ℕ} b 1 0 ≤ 1
cond-most true = omega arith
cond-most false = omega arith

-- at most 1 each, and 0 at the first
pub sum-most : (n : ℕ) (f : ℕ → ℕ) → 1 ≤ n → f 0 ≡ 0 → ((i : ℕ) → i < n → f i ≤ 1) → sum_to n f < n
sum-most zero f h z b = absurd (not-suc-le-zero h)
sum-most (suc zero) f h z b = omega arith
sum-most (suc (suc n)) f h z b = omega (arith, sum-most (suc n) f (omega arith) z (λ i g. b i (omega arith)), b (suc n) (omega arith))

pub tally-part : (k n : ℕ) (xs : List ℕ) → tally k (take n xs) ≤ tally k xs
tally-part k n xs = omega (arith, tally-append k (take n xs) (drop n xs), ap (tally k) (take-append-drop n xs))

-- as many as there are, at most
pub tally-length : (k : ℕ) (xs : List ℕ) → tally k xs ≤ length xs
tally-length k [] = omega arith
tally-length k (x ∷ xs) = omega (arith, tally-length k xs, cond-most (eqb x k))

-- two places of k make two
pub tally-two : (k : ℕ) (xs : List ℕ) (i j : ℕ) → i < j → j < length xs → get_or xs i 0 ≡ k → get_or xs j 0 ≡ k → 2 ≤ tally k xs
tally-two k [] i j h l a b = absurd (not-suc-le-zero l)
tally-two k (x ∷ xs) i zero h l a b = absurd (not-suc-le-zero h)
tally-two k (x ∷ xs) zero (suc j) h l a b = omega (arith, one-yes k x a, tally-some k xs j (le_of_suc-le-suc l) b)
tally-two k (x ∷ xs) (suc i) (suc j) h l a b = omega (arith, tally-two k xs i j (le_of_suc-le-suc h) (le_of_suc-le-suc l) a b)

-- first_place: what stands there, and where there is none
pub first_found : (k : ℕ) (xs : List ℕ) → first_place k xs < length xs → get_or xs (first_place k xs) 0 ≡ k
first_found k xs h = eqb-true (get_or xs (first_place k xs) 0) k (where_found (λ (x : ℕ). eqb x k) xs 0 h)

pub first-none : (k : ℕ) (xs : List ℕ) → length xs ≤ first_place k xs → (i : ℕ) → i < length xs → get_or xs i 0 ≡ k → ⊥
first-none k xs h i l e = false≢true (sym (where-absent (λ (x : ℕ). eqb x k) xs 0 h i l) ∙ eq-eqb (get_or xs i 0) k e)

-- a tally is std's count
pub tally_is : (k : ℕ) (xs : List ℕ) → tally k xs ≡ count_by (λ x. eqb x k) xs
tally_is k xs = is_sum_by (tally k) (λ x. cond (eqb x k) 1 0) refl (λ _ _. refl) xs

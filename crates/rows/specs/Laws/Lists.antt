-- Laws of the searches, counts and tests over lists.
use Rattle.std.specs.Prelude.{◌≡◌, refl, Bool, true, false, not, ◌&&◌, ◌||◌, List, [], ◌∷◌, Option, Some, None, ℕ, zero, suc, ◌≤◌, ◌<◌, length, get_or, eqb}
use Rattle.std.proofs.Common.{sym, subst, suc-le-suc, not-suc-le-zero, le_of_suc-le-suc, arith, eq-eqb, ne_eqb}
use Rattle.std.proofs.lemmas.Bool.{false≢true}
use Rattle.std.proofs.lemmas.List.Sums.{AllPass-from_list_all, passes_at_first, fails_before_first}
use Rattle.std.proofs.Math.Decide.{dec_lt}
use Rattle.rows.specs.Definition.Lists.{every, first_where, last_from, last_of, up_to}

-- a test that passed, as what it tested
pub and_left : (a b : Bool) → a && b ≡ true → a ≡ true
and_left true b e = refl
and_left false b e = e

pub and_right : (a b : Bool) → a && b ≡ true → b ≡ true
and_right true b e = e
and_right false b e = absurd (false≢true e)

-- two tests of which neither passed
pub or_left : (a b : Bool) → a || b ≡ false → a ≡ false
or_left true b e = e
or_left false b e = refl

pub or_right : (a b : Bool) → a || b ≡ false → b ≡ false
or_right true b e = absurd (false≢true (sym e))
or_right false b e = e

pub or-none : (b : Bool) → b || false ≡ b
or-none true = refl
or-none false = refl

pub not-not : (b : Bool) → not (not b) ≡ b
not-not true = refl
not-not false = refl

pub is_false : (b : Bool) → (b ≡ true → ⊥) → b ≡ false
is_false true n = absurd (n refl)
is_false false n = refl

-- two numbers of which neither is below the other
pub neither-below : (i j : ℕ) → (i < j → ⊥) → (j < i → ⊥) → i ≡ j
neither-below i j p q = omega arith

pub every-at : {A : Type 0} (p : A → Bool) (xs : List A) (d : A) → every p xs ≡ true → (k : ℕ) → k < length xs → p (get_or xs k d) ≡ true
every-at p xs d t k h = AllPass-from_list_all p xs t k d h

-- the bounded test as the statement, and back
pub up_to→all : (n : ℕ) (p : ℕ → Bool) → up_to n p ≡ true → (i : ℕ) → i < n → p i ≡ true
unfolding up_to
up_to→all zero p t i h = absurd (not-suc-le-zero h)
up_to→all (suc n) p t i h =
    elim (dec_lt i n) [
      | yes g ↦ up_to→all n p (and_left (up_to n p) (p n) t) i g
      | no g ↦ let e : n ≡ i = omega arith in subst (λ (k : ℕ). p k ≡ true) e (and_right (up_to n p) (p n) t)
    ]

pub all→up_to : (n : ℕ) (p : ℕ → Bool) → ((i : ℕ) → i < n → p i ≡ true) → up_to n p ≡ true
unfolding up_to
all→up_to zero p f = refl
all→up_to (suc n) p f = rw (all→up_to n p (λ i h. f i (omega arith)), f n (omega arith))

-- the same test, row by row
pub up_to-same : (n : ℕ) (p q : ℕ → Bool) → ((i : ℕ) → i < n → p i ≡ q i) → up_to n p ≡ up_to n q
unfolding up_to
up_to-same zero p q f = refl
up_to-same (suc n) p q f = rw (up_to-same n p q (λ i h. f i (omega arith)), f n (omega arith))

-- two tests that pass together
pub same_when : (a b : Bool) → (a ≡ true → b ≡ true) → (b ≡ true → a ≡ true) → a ≡ b
same_when true b f g = sym (f refl)
same_when false true f g = g refl
same_when false false f g = refl

-- rows that pass wherever they are asked
pub up_to-rest : (m k : ℕ) (p : ℕ → Bool) → m ≤ k → ((i : ℕ) → m ≤ i → i < k → p i ≡ true) → up_to m p ≡ up_to k p
up_to-rest m k p h f =
    same_when (up_to m p) (up_to k p)
    (λ t. all→up_to k p (λ i a. elim (dec_lt i m) [ yes g ↦ up_to→all m p t i g | no g ↦ f i (omega arith) a ]))
    (λ t. all→up_to m p (λ i a. up_to→all k p t i (omega arith)))

-- first_where: the test passes there; and where it gives the length, nowhere
pub where_found : {A : Type 0} (p : A → Bool) (xs : List A) (d : A) → first_where p xs < length xs → p (get_or xs (first_where p xs) d) ≡ true
where_found p xs d h = passes_at_first p xs d h

pub where-absent : {A : Type 0} (p : A → Bool) (xs : List A) (d : A) → length xs ≤ first_where p xs → (i : ℕ) → i < length xs → p (get_or xs i d) ≡ false
where-absent p xs d h i l = fails_before_first p xs i d (omega arith)

last-from : (l : Option ℕ) (first : Bool) (n i : ℕ) → ((j : ℕ) → l ≡ Some j → j < n) → last_from l first ≡ Some i → i < suc n
last-from (Some j) first n i h e = let q : suc j ≡ i = cc in omega (arith, h j refl)
last-from None true n i h e = let q : 0 ≡ i = cc in omega arith
last-from None false n i h e = absurd (let z : ◌≡◌ {A = ℕ} 0 1 = cc in omega arith)

-- the last k stands within the list
pub last_within : (k : ℕ) (xs : List ℕ) (i : ℕ) → last_of k xs ≡ Some i → i < length xs
last_within k [] i e = absurd (let z : ◌≡◌ {A = ℕ} 0 1 = cc in omega arith)
last_within k (x ∷ xs) i e = last-from (last_of k xs) (eqb x k) (length xs) i (last_within k xs) e

-- last_of: where there is none, and where the last k stands
pub last_none : (k : ℕ) (xs : List ℕ) → ((j : ℕ) → j < length xs → get_or xs j 0 ≡ k → ⊥) → last_of k xs ≡ None
last_none k [] not = refl
last_none k (x ∷ xs) not = rw (last_of, last_none k xs (λ j g. not (suc j) (suc-le-suc g)), ne_eqb x k (not 0 (omega arith)))

pub last-here : (k : ℕ) (xs : List ℕ) (i : ℕ) → i < length xs → ((j : ℕ) → i < j → j < length xs → get_or xs j 0 ≡ k → ⊥)
    → get_or xs i 0 ≡ k → last_of k xs ≡ Some i
last-here k [] i h not e = absurd (omega arith)
last-here k (x ∷ xs) zero h not e = rw (last_of, last_none k xs (λ j g. not (suc j) (omega arith) (suc-le-suc g)), eq-eqb x k e)
last-here k (x ∷ xs) (suc i) h not e =
    rw (last_of, last-here k xs i (le_of_suc-le-suc h) (λ j g l. not (suc j) (suc-le-suc g) (suc-le-suc l)) e)

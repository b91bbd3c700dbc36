-- Sums over the numbers below n: the numbering of the pairs (i, k) with i < n and k < f i, the pigeonhole principle, and the sum of a list.
use Rattle.std.specs.Prelude.{◌≡◌, refl, ◌≢◌, ◌⊎◌, List, [], ◌∷◌, ◌++◌, ℕ, suc, zero, ◌+◌, ◌-◌, ◌≤◌, ◌<◌, length, get_or}
use Rattle.std.proofs.Common.{ap, inl, inr, arith}
use Rattle.std.proofs.Math.Decide.{dec_lt, ℕ_discrete}
use Rattle.rows.specs.Definition.Lists.{sum_to}

order : (a b : ℕ) → (a < b) ⊎ ((a ≡ b) ⊎ (b < a))
order a b =
    elim (dec_lt a b) [
      | yes h ↦ inl h
      | no h ↦ elim (dec_lt b a) [ yes g ↦ inr (inr g) | no g ↦ inr (inl (omega arith)) ]
    ]

module _ (f : ℕ → ℕ) where
  sum_below : (i n : ℕ) → i < n → sum_to i f + f i ≤ sum_to n f
  sum_below i zero h = absurd (omega arith)
  sum_below i (suc n) h =
      elim (order i n) [
        | inl g ↦ omega (arith, sum_below i n g)
        | inr e ↦ elim e [ inl p ↦ rw p (omega arith) | inr g ↦ absurd (omega arith) ]
      ]

  -- a pair's number is below the sum
  pub number-below : (n i k : ℕ) → i < n → k < f i → sum_to i f + k < sum_to n f
  number-below n i k h g = omega (arith, sum_below i n h)

  -- each number below the sum is a pair's
  pub pair-at : (n p : ℕ) → p < sum_to n f → (i : ℕ) × (k : ℕ) × (i < n) × (k < f i) × (sum_to i f + k ≡ p)
  pair-at zero p h = absurd (omega arith)
  pair-at (suc n) p h =
      elim (dec_lt p (sum_to n f)) [
        | yes g ↦ let (i, k, a, b, e) = pair-at n p g in (i, k, omega arith, b, e)
        | no g ↦ (n, p - sum_to n f, omega arith, omega arith, omega arith)
      ]

  -- no two pairs have one number
  pub number-apart : (i j k l : ℕ) → k < f i → l < f j → sum_to i f + k ≡ sum_to j f + l → (i ≡ j) × (k ≡ l)
  number-apart i j k l a b e =
      elim (order i j) [
        | inl g ↦ absurd (omega (arith, sum_below i j g))
        | inr d ↦ elim d [
          | inl p ↦ (p, omega (arith, ap (λ (x : ℕ). sum_to x f) p))
          | inr g ↦ absurd (omega (arith, sum_below j i g))
        ]
      ]

-- x, but v where x is n
avoid : ℕ → ℕ → ℕ → ℕ
avoid v n x = elim (ℕ_discrete x n) [ yes _ ↦ v | no _ ↦ x ]

avoid-is : (v n x : ℕ) → ((x ≡ n) × (avoid v n x ≡ v)) ⊎ ((x ≢ n) × (avoid v n x ≡ x))
unfolding avoid
avoid-is v n x = go (ℕ_discrete x n)
  where
    go : (d : Dec (x ≡ n)) → ((x ≡ n) × ((elim d as (λ _. ℕ) [ yes _ ↦ v | no _ ↦ x ]) ≡ v)) ⊎ ((x ≢ n) × ((elim d as (λ _. ℕ) [ yes _ ↦ v | no _ ↦ x ]) ≡ x))
    go (yes p) = inl (p, refl)
    go (no p) = inr (p, refl)

-- the pigeonhole principle
pigeonhole : (m n : ℕ) (g : ℕ → ℕ) → ((i : ℕ) → i < m → g i < n) → ((i j : ℕ) → i < m → j < m → g i ≡ g j → i ≡ j) → m ≤ n
pigeonhole zero n g into inj = omega arith
pigeonhole (suc m) zero g into inj = absurd (omega (arith, into 0 (omega arith)))
pigeonhole (suc m) (suc n) g into inj = omega (arith, pigeonhole m n h h-into h-inj)
  where
    h : ℕ → ℕ
    h i = avoid (g m) n (g i)

    last-not : (i : ℕ) → i < m → g i ≢ g m
    last-not i a e = let z : i ≡ m = inj i m (omega arith) (omega arith) e in absurd (omega arith)

    h-into : (i : ℕ) → i < m → h i < n
    h-into i a =
        elim (avoid-is (g m) n (g i)) [
          | inl c ↦ omega (arith, c, last-not i a, into m (omega arith))
          | inr c ↦ omega (arith, c, into i (omega arith))
        ]

    h-inj : (i j : ℕ) → i < m → j < m → h i ≡ h j → i ≡ j
    h-inj i j a b e =
        elim (avoid-is (g m) n (g i)) [
          | inl c ↦ elim (avoid-is (g m) n (g j)) [
            | inl d ↦ inj i j (omega arith) (omega arith) (omega arith)
            | inr d ↦ absurd (last-not j b (omega arith))
          ]
          | inr c ↦ elim (avoid-is (g m) n (g j)) [
            | inl d ↦ absurd (last-not i a (omega arith))
            | inr d ↦ inj i j (omega arith) (omega arith) (omega arith)
          ]
        ]

-- the same of a relation: where each of m numbers has a partner below n, and no two share one, m is at most n
pub pigeonhole-rel : (m n : ℕ) (P : ℕ → ℕ → Type 0) → ((i : ℕ) → i < m → (v : ℕ) × (v < n) × P i v) → ((i j v : ℕ) → P i v → P j v → i ≡ j) → m ≤ n
pigeonhole-rel m n P has apart = pigeonhole m n g (λ i h. (g-is i h).0) (λ i j a b e. apart i j (g j) (rw e at (g-is i a).1) (g-is j b).1)
  where
    go : (i : ℕ) → Dec (i < m) → ℕ
    go i (yes h) = (has i h).0
    go i (no _) = 0

    g : ℕ → ℕ
    g i = go i (dec_lt i m)

    go-is : (i : ℕ) (d : Dec (i < m)) → i < m → (go i d < n) × P i (go i d)
    go-is i (yes h) a = ((has i h).1, (has i h).2)
    go-is i (no h) a = absurd (h a)

    g-is : (i : ℕ) → i < m → (g i < n) × P i (g i)
    g-is i a = go-is i (dec_lt i m) a

-- the sum of a list
abbrev pub total : List ℕ → ℕ
total [] = 0
total (x ∷ xs) = x + total xs

sum-front : (n : ℕ) (f : ℕ → ℕ) → sum_to (suc n) f ≡ f 0 + sum_to n (λ i. f (suc i))
sum-front zero f = omega arith
sum-front (suc n) f = omega (arith, sum-front n f)

pub total-sum : (xs : List ℕ) → sum_to (length xs) (λ i. get_or xs i 0) ≡ total xs
total-sum [] = refl
total-sum (x ∷ xs) = omega (arith, sum-front (length xs) (λ i. get_or (x ∷ xs) i 0), total-sum xs)

pub total-append : (xs ys : List ℕ) → total (xs ++ ys) ≡ total xs + total ys
total-append [] ys = omega arith
total-append (x ∷ xs) ys = omega (arith, total-append xs ys)

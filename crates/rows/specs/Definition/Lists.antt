-- Searches, counts and tests over lists, which antt computes.
use Rattle.std.specs.List.{list_all, position_or_len}
use Rattle.std.specs.Prelude.{Bool, true, cond, ◌&&◌, List, [], ◌∷◌, ◌++◌, Option, Some, None, ℕ, zero, suc, ◌+◌, ◌-◌, length, get_or, take, drop, replicate, eqb}

-- what stands at a place of a list of numbers, 0 beyond its end
abbrev pub at : List ℕ → ℕ → ℕ
at xs i = get_or xs i 0

-- the list with zeros behind it, up to n
abbrev pub padded : ℕ → List ℕ → List ℕ
padded n xs = xs ++ replicate {A = ℕ} (n - length xs) 0

-- the list without row i, the later rows moved up, and z behind
abbrev pub without : {A : Type 0} → ℕ → List A → A → List A
without i xs z = (take i xs ++ drop (suc i) xs) ++ (z ∷ [])

-- every element passes the test
abbrev pub every : {A : Type 0} → (A → Bool) → List A → Bool
every p xs = list_all p xs

-- the place of the first element that passes the test, or the length where there is none
abbrev pub first_where : {A : Type 0} → (A → Bool) → List A → ℕ
first_where p xs = position_or_len p xs

-- the place of the first k
abbrev pub first_place : ℕ → List ℕ → ℕ
first_place k xs = first_where (λ (x : ℕ). eqb x k) xs

-- behind a first element: what was found there, one place further on, or the first element itself
abbrev pub last_from : Option ℕ → (first : Bool) → Option ℕ
last_from (Some i) first = Some (suc i)
last_from None first = cond first (Some 0) None

-- the place of the last k, if there is one
abbrev pub last_of : ℕ → List ℕ → Option ℕ
last_of k [] = None
last_of k (x ∷ xs) = last_from (last_of k xs) (eqb x k)

-- how many elements are k
abbrev pub tally : ℕ → List ℕ → ℕ
tally k [] = 0
tally k (x ∷ xs) = cond (eqb x k) 1 0 + tally k xs

-- the sum of f over the numbers below n
abbrev pub sum_to : ℕ → (ℕ → ℕ) → ℕ
sum_to zero f = 0
sum_to (suc n) f = sum_to n f + f n

-- the test passes at each number below n
unfoldable pub up_to : ℕ → (ℕ → Bool) → Bool
up_to zero p = true
up_to (suc n) p = up_to n p && p n

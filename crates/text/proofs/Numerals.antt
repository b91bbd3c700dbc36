-- Numerals of more than one digit: the tenth part's, and the last digit behind it.
use Rattle.std.proofs.Common.{◌≡◌, refl, [], ◌∷◌, ◌++◌, ℕ, zero, suc, ◌+◌, ◌*◌, ◌/◌, ◌^◌, ◌<◌, ◌≤◌, length, ltb, arith, length-append, lt-ltb, le-ltb, ltb-true, ltb-false, inl, inr}
use Rattle.std.proofs.Math.Numerals.{unary_clauses}
use Rattle.std.proofs.lemmas.Bool.{cases_Bool}
use Rattle.text.specs.Definition.Text.{digit_of, decimal_in, decimal_of, fields_of}
use Rattle.text.specs.Laws.Text.{decimal-one}

few : (k m n : ℕ) → n ≤ k → n ≤ m → decimal_in k n ≡ decimal_in m n
unfolding decimal_in
few zero zero n h g = refl
few zero (suc m) n h g = rw (lt-ltb n 10 (omega arith))
few (suc k) zero n h g = rw (lt-ltb n 10 (omega arith))
few (suc k) (suc m) n h g = elim (cases_Bool (ltb n 10)) [ inl e ↦ rw e | inr e ↦ let q : 10 ≤ n = ltb-false n 10 e in rw (e, few k m (n / 10) (omega arith) (omega arith)) ]

pub decimal-more : (n : ℕ) → 10 ≤ n → decimal_of n ≡ decimal_of (n / 10) ++ (digit_of n ∷ [])
unfolding decimal_of decimal_in
decimal-more zero h = absurd (omega (arith, h))
decimal-more (suc n) h = rw (le-ltb (suc n) 10 h, few n (suc n / 10) (suc n / 10) (omega arith) (omega arith))

pub decimal-length : (n : ℕ) → 10 ≤ n → length (decimal_of n) ≡ length (decimal_of (n / 10)) + 1
decimal-length n h = rw (decimal-more n h, length-append)

-- a number below a power of ten has no more digits than that has zeros
pub digits : (k n : ℕ) → n < 10 ^ suc k → length (decimal_of n) ≤ suc k
digits zero n h = rw (decimal-one n h) (omega arith)
digits (suc k) n h = elim (cases_Bool (ltb n 10)) [
  | inl e ↦ rw (decimal-one n (ltb-true n 10 e)) (omega arith)
  | inr e ↦
      let q : 10 ≤ n = ltb-false n 10 e in
      let p : 10 ^ suc (suc k) ≡ 10 * 10 ^ suc k = simp unary_clauses (omega arith) in
      omega (arith, decimal-length n q, digits k (n / 10) (omega (arith, h, p)))
]

-- a u16 has at most five digits, a u64 at most twenty
pub short : (n : ℕ) → n < 65536 → length (decimal_of n) ≤ 5
short n h = digits 4 n (omega arith)

pub long : (n : ℕ) → n < 2 ^ 64 → length (decimal_of n) ≤ 20
long n h = digits 19 n (omega arith)

-- a u16 and a space
pub field-short : (n : ℕ) → n < 65536 → length (decimal_of n ++ (32 ∷ [])) ≤ 6
field-short n h = rw length-append (omega (arith, short n h))

-- four u16s, one space between
pub few_fields : (kind answer a b : ℕ) → kind < 65536 → answer < 65536 → a < 65536 → b < 65536 → length (fields_of kind answer a b) ≤ 23
unfolding fields_of
few_fields kind answer a b h i j k = simp length-append (omega (arith, short kind h, short answer i, short a j, short b k))

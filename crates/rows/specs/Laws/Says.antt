-- Tests as facts: what a test says, and how tests are put together.
use Rattle.std.specs.Prelude.{◌≡◌, refl, Bool, true, false, cond, not, ◌&&◌, ◌||◌, ◌⊎◌, ℕ, ◌≤◌, ◌<◌, leb, ltb, eqb}
use Rattle.std.proofs.Common.{sym, ◌∙◌, inl, inr, ⊎_elim, arith, leb-true, ltb-true, eqb-true, le-leb, lt-ltb, eq-eqb}
use Rattle.std.proofs.lemmas.Bool.{false≢true, not-true}
use Rattle.std.proofs.Math.Decide.{dec_le, dec_lt}
use Rattle.rows.specs.Definition.Lists.{up_to}
use Rattle.rows.specs.Laws.Lists.{up_to→all, all→up_to, and_left, and_right, is_false}

-- a test as a fact: `Says b P` is that b is true exactly when P
pub record Says (b : Bool) (P : Type 0) : Type 0 where
  pub yes : b ≡ true → P
  pub make : P → b ≡ true

pub says-le : (a b : ℕ) → Says (leb a b) (a ≤ b)
says-le a b = record { yes = leb-true a b; make = le-leb a b }

pub says-lt : (a b : ℕ) → Says (ltb a b) (a < b)
says-lt a b = record { yes = ltb-true a b; make = lt-ltb a b }

pub says_eq : (a b : ℕ) → Says (eqb a b) (a ≡ b)
says_eq a b = record { yes = eqb-true a b; make = eq-eqb a b }

and_both : (a b : Bool) → a ≡ true → b ≡ true → a && b ≡ true
and_both a b p q = rw (p, q)

pub says-and : {a b : Bool} {P Q : Type 0} → Says a P → Says b Q → Says (a && b) (P × Q)
says-and {a} {b} f g = record { yes = λ e. (f.yes (and_left a b e), g.yes (and_right a b e)); make = λ h. and_both a b (f.make h.0) (g.make h.1) }

-- one or the other passed: where the first fails, the second
or-late : (a b : Bool) → a || b ≡ true → (a ≡ true → ⊥) → b ≡ true
or-late true b e n = absurd (n refl)
or-late false b e n = e

or-first : (a b : Bool) → a ≡ true → a || b ≡ true
or-first a b e = rw e

or-second : (a b : Bool) → b ≡ true → a || b ≡ true
or-second true b e = refl
or-second false b e = e

-- asked only below n
pub says-below : {b : Bool} {P : Type 0} (n i : ℕ) → Says b P → Says (leb n i || b) (i < n → P)
says-below {b} n i f = record {
  yes = λ e h. f.yes (or-late (leb n i) b e (λ q. omega (arith, leb-true n i q)));
  make = λ h. elim (dec_lt i n) [ yes q ↦ or-second (leb n i) b (f.make (h q)) | no q ↦ or-first (leb n i) b (le-leb n i (omega arith)) ];
}

-- asked only from n on
pub says-from : {b : Bool} {P : Type 0} (n i : ℕ) → Says b P → Says (ltb i n || b) (n ≤ i → P)
says-from {b} n i f = record {
  yes = λ e h. f.yes (or-late (ltb i n) b e (λ q. omega (arith, ltb-true i n q)));
  make = λ h. elim (dec_le n i) [ yes q ↦ or-second (ltb i n) b (f.make (h q)) | no q ↦ or-first (ltb i n) b (lt-ltb i n (omega arith)) ];
}

-- asked of each number below n
pub says_all : (n : ℕ) (p : ℕ → Bool) (P : ℕ → Type 0) → ((i : ℕ) → i < n → Says (p i) (P i)) → Says (up_to n p) ((i : ℕ) → i < n → P i)
says_all n p P f = record {
  yes = λ e i h. (f i h).yes (up_to→all n p e i h);
  make = λ g. all→up_to n p (λ i h. (f i h).make (g i h));
}

-- where what it says does not hold, the test fails
pub says-no : {b : Bool} {P : Type 0} → Says b P → (P → ⊥) → b ≡ false
says-no {b} f n = is_false b (λ e. n (f.yes e))

pub says-not : {b : Bool} {P : Type 0} → Says b P → Says (not b) (P → ⊥)
says-not {b} f = record {
  yes = λ e h. false≢true (sym (not-true b e) ∙ f.make h);
  make = λ n. rw (says-no f n);
}

-- the same fact said otherwise
pub says-as : {b : Bool} {P Q : Type 0} → Says b P → (P → Q) → (Q → P) → Says b Q
says-as f to back = record { yes = λ e. to (f.yes e); make = λ q. f.make (back q) }

-- where the first does not hold, the second
pub says-else : {a b : Bool} {P Q : Type 0} → Says a P → Says b Q → Says (a || b) ((P → ⊥) → Q)
says-else {a} {b} f g = record {
  yes = λ e n. g.yes (or-late a b e (λ q. n (f.yes q)));
  make = λ h. go a b (λ n. g.make (h (λ p. n (f.make p))));
}
  where
    go : (a b : Bool) → ((a ≡ true → ⊥) → b ≡ true) → a || b ≡ true
    go true b k = refl
    go false b k = k (λ e. false≢true e)

-- one test where S holds, and another where it does not
pub says-cond : {b x y : Bool} {S P Q : Type 0} → Says b S → Says x P → Says y Q → Says (cond b x y) ((S → P) × ((S → ⊥) → Q))
says-cond {b} {x} {y} {S} {P} {Q} s f g = go b s
  where
    go : (b : Bool) → Says b S → Says (cond b x y) ((S → P) × ((S → ⊥) → Q))
    go true s = record { yes = λ e. (λ _. f.yes e, λ n. absurd (n (s.yes refl))); make = λ h. f.make (h.0 (s.yes refl)) }
    go false s = record { yes = λ e. (λ p. absurd (false≢true (s.make p)), λ _. g.yes e); make = λ h. g.make (h.1 (λ p. false≢true (s.make p))) }

-- one or the other
pub says-or : {a b : Bool} {P Q : Type 0} → Says a P → Says b Q → Says (a || b) (P ⊎ Q)
says-or {a} {b} f g = record {
  yes = λ e. go a b e (λ q. f.yes q) (λ q. g.yes q);
  make = λ h. ⊎_elim (λ p. or-first a b (f.make p)) (λ q. or-second a b (g.make q)) h;
}
  where
    go : {P Q : Type 0} (a b : Bool) → a || b ≡ true → (a ≡ true → P) → (b ≡ true → Q) → P ⊎ Q
    go true b e p q = inl (p refl)
    go false b e p q = inr (q e)

-- the second fact may lean on the first
pub says_then : {a b : Bool} {P Q : Type 0} → Says a P → (P → Says b Q) → Says (a && b) (P × Q)
says_then {a} {b} f g = record {
  yes = λ e. let p = f.yes (and_left a b e) in (p, (g p).yes (and_right a b e));
  make = λ h. and_both a b (f.make h.0) ((g h.0).make h.1);
}

pub says-true : (b : Bool) → Says b (b ≡ true)
says-true b = record { yes = λ e. e; make = λ e. e }

pub says-false : (b : Bool) → Says (not b) (b ≡ false)
says-false b = record { yes = not-true b; make = λ e. rw e }

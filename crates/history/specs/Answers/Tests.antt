-- More of tests as facts: that one holds or does not, and the other comparison.
use Rattle.std.specs.Prelude.{refl, Bool, true, false, ◌⊎◌, ℕ, leb, ltb}
use Rattle.std.proofs.lemmas.Bool.{false≢true}
use Rattle.std.proofs.Common.{inl, inr, arith, ltb-true, lt-ltb, leb-true, le-leb}
use Rattle.std.proofs.Math.Decide.{dec_lt}
use Rattle.rows.specs.Laws.Says.{Says}

-- what a test says holds or not
pub says-either : {b : Bool} {P : Type 0} → Says b P → P ⊎ (P → ⊥)
says-either {b} {P} f = go b f
  where
    go : (b : Bool) → Says b P → P ⊎ (P → ⊥)
    go true f = inl (f.yes refl)
    go false f = inr (λ p. false≢true (f.make p))

-- not below n, as the other comparison asks it
pub says-beyond : {P : Type 0} (i n : ℕ) → Says (ltb i n) P → Says (leb n i) (P → ⊥)
says-beyond i n f = record {
  yes = λ e p. omega (arith, leb-true n i e, ltb-true i n (f.make p));
  make = λ m. elim (dec_lt i n) [ yes h ↦ absurd (m (f.yes (lt-ltb i n h))) | no h ↦ le-leb n i (omega arith) ];
}

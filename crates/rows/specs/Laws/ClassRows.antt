-- The classes after a reset of the user's segments and after a start are good.
use Rattle.std.specs.Prelude.{◌≡◌, refl, List, ◌∷◌, ◌++◌, map, ℕ, zero, suc, ◌-◌, ◌≤◌, ◌<◌, length, replicate}
use Rattle.std.proofs.Common.{sym, ◌∙◌, not-suc-le-zero, le_of_suc-le-suc, arith, ne_eqb, length-append}
use Rattle.std.proofs.Math.Decide.{dec_le, ℕ_discrete}
use Rattle.std.proofs.lemmas.List.{length-replicate}
use Rattle.std.proofs.Math.ListN.{get_or-map}
use Rattle.rows.specs.Definition.Lists.{at}
use Rattle.rows.specs.Definition.Classes.{FREE, USER, SYSTEM, SHARED, times_held, start_classes, released}
use Rattle.rows.specs.Laws.Counts.{one-yes, one-no}
use Rattle.rows.specs.Definition.Good.{ClassesGood, ChainGood}

-- released classes: the chain holds the same, and nothing is shared
pub released-kind : (c : ℕ) → times_held (released c) ≡ times_held c
released-kind c =
    elim (ℕ_discrete c USER) [
      | yes q ↦ rw q
      | no q ↦ elim (ℕ_discrete c SHARED) [ yes w ↦ rw w | no w ↦ let e : released c ≡ c = rw (ne_eqb c USER q, ne_eqb c SHARED w) in rw e ]
    ]

pub record Released (c d : ℕ) : Type 0 where
  pub some : FREE ≤ c → FREE ≤ d
  pub most : c ≤ SHARED → d ≤ SHARED
  pub zero : c ≡ 0 → d ≡ 0
  pub apart : d ≡ SHARED → ⊥

pub released-is : (c : ℕ) → Released c (released c)
released-is c =
    elim (ℕ_discrete c USER) [
      | yes q ↦ rw q (record { some = λ h. omega arith; most = λ h. omega arith; zero = λ h. omega arith; apart = λ h. omega arith })
      | no q ↦ elim (ℕ_discrete c SHARED) [
        | yes w ↦ rw w (record { some = λ h. omega arith; most = λ h. omega arith; zero = λ h. omega arith; apart = λ h. omega arith })
        | no w ↦ rw (ne_eqb c USER q, ne_eqb c SHARED w) (record { some = λ h. h; most = λ h. h; zero = λ h. h; apart = w })
      ]
    ]

pub released-at : (cs : List ℕ) (i : ℕ) → at (map released cs) i ≡ released (at cs i)
released-at cs i = get_or-map released cs i 0

pub released-classes : (n : ℕ) (cs : List ℕ) → ClassesGood n cs → ClassesGood n (map released cs)
released-classes n cs g = record {
  page = released-at cs 0 ∙ (released-is (at cs 0)).zero g.page;
  some = λ i a h. rw (released-at cs i) ((released-is (at cs i)).some (g.some i a h));
  most = λ i h. rw (released-at cs i) ((released-is (at cs i)).most (g.most i h));
  rest = λ i a h. released-at cs i ∙ (released-is (at cs i)).zero (g.rest i a h);
}

pub released-chain : (n : ℕ) (cs chain : List ℕ) (held : ℕ) → ChainGood n cs chain held → ChainGood n (map released cs) chain held
released-chain n cs chain held g = record {
  holds = g.holds;
  most = g.most;
  starts = g.starts;
  rows = g.rows;
  exact = λ r h. rw (released-at cs r, released-kind (at cs r)) (g.exact r h);
  last = λ r h q. absurd ((released-is (at cs r)).apart (sym (released-at cs r) ∙ q));
  rest = g.rest;
}

-- the classes after a start, row by row
free-at : (k i : ℕ) (zs : List ℕ) → i < k → at (replicate k FREE ++ SYSTEM ∷ zs) i ≡ FREE
free-at zero i zs h = absurd (not-suc-le-zero h)
free-at (suc k) zero zs h = refl
free-at (suc k) (suc i) zs h = free-at k i zs (le_of_suc-le-suc h)

system-at : (k i : ℕ) (zs : List ℕ) → i ≡ k → at (replicate k FREE ++ SYSTEM ∷ zs) i ≡ SYSTEM
system-at zero i zs e = rw e
system-at (suc k) zero zs e = absurd (omega arith)
system-at (suc k) (suc i) zs e = system-at k i zs (omega arith)

pub zeros-at : (m i : ℕ) → at (replicate m 0) i ≡ 0
zeros-at zero i = refl
zeros-at (suc m) zero = refl
zeros-at (suc m) (suc i) = zeros-at m i

none_after : (k i m : ℕ) → k < i → at (replicate k FREE ++ SYSTEM ∷ replicate m 0) i ≡ 0
none_after zero zero m h = absurd (not-suc-le-zero h)
none_after zero (suc i) m h = zeros-at m i
none_after (suc k) zero m h = absurd (not-suc-le-zero h)
none_after (suc k) (suc i) m h = none_after k i m (le_of_suc-le-suc h)

module _ (n : ℕ) (p : 2 ≤ n) (q : n ≤ 32) where
  pub fresh-free : (i : ℕ) → 1 ≤ i → i < n - 1 → at (start_classes n) i ≡ FREE
  fresh-free zero a h = absurd (not-suc-le-zero a)
  fresh-free (suc i) a h = free-at (n - 2) i (replicate (32 - n) 0) (omega arith)

  pub fresh-last : (i : ℕ) → i ≡ n - 1 → at (start_classes n) i ≡ SYSTEM
  fresh-last zero h = absurd (omega arith)
  fresh-last (suc i) h = system-at (n - 2) i (replicate (32 - n) 0) (omega arith)

  pub fresh-rest : (i : ℕ) → n ≤ i → at (start_classes n) i ≡ 0
  fresh-rest zero h = absurd (omega arith)
  fresh-rest (suc i) h = none_after (n - 2) i (32 - n) (omega arith)

  pub fresh-classes : ClassesGood n (start_classes n)
  fresh-classes = record {
    page = refl;
    some = λ i a h. elim (ℕ_discrete i (n - 1)) [ yes e ↦ omega (arith, fresh-last i e) | no e ↦ omega (arith, fresh-free i a (omega arith)) ];
    most = λ i h. elim (dec_le 1 i) [
      | yes a ↦ elim (ℕ_discrete i (n - 1)) [ yes e ↦ omega (arith, fresh-last i e) | no e ↦ omega (arith, fresh-free i a (omega arith)) ]
      | no a ↦ let z : i ≡ 0 = omega arith in rw z (omega arith)
    ];
    rest = λ i h k. fresh-rest i h;
  }

  pub fresh-chain : ChainGood n (start_classes n) ((n - 1) ∷ replicate 31 0) 1
  fresh-chain = record {
    holds = omega arith;
    most = omega arith;
    starts = refl;
    rows = λ i h. let z : i ≡ 0 = omega arith in rw z (omega arith);
    exact = λ r h. elim (ℕ_discrete r (n - 1)) [
      | yes e ↦ rw (fresh-last r e, one-yes r (n - 1) (sym e))
      | no e ↦ elim (dec_le 1 r) [
        | yes a ↦ rw (fresh-free r a (omega arith), one-no r (n - 1) (λ w. e (sym w)))
        | no a ↦ let z : r ≡ 0 = omega arith in rw (z, one-no 0 (n - 1) (λ w. omega arith))
      ]
    ];
    last = λ r h e. elim (ℕ_discrete r (n - 1)) [
      | yes w ↦ sym w
      | no w ↦ elim (dec_le 1 r) [
        | yes a ↦ absurd (omega (arith, fresh-free r a (omega arith)))
        | no a ↦ let z : r ≡ 0 = omega arith in let y : ◌≡◌ {A = ℕ} 0 SHARED = rw z at e in absurd (omega arith)
      ]
    ];
    rest = λ i h k. rest_of i h;
  }
    where
      rest_of : (i : ℕ) → 1 ≤ i → at ((n - 1) ∷ replicate 31 0) i ≡ 0
      rest_of zero h = absurd (not-suc-le-zero h)
      rest_of (suc i) h = zeros-at 31 i

  pub fresh-length : length (start_classes n) ≡ 32
  fresh-length =
      omega (arith, length-append (replicate {A = ℕ} (n - 2) FREE) (SYSTEM ∷ replicate (32 - n) 0), length-replicate {A = ℕ} (n - 2) FREE, length-replicate {A = ℕ} (32 - n) 0)

-- How often each row stands among the entries of the chain that are passed.
use Rattle.std.proofs.Common.{◌≡◌, sym, ◌∙◌, refl, List, ℕ, ◌+◌, ◌≤◌, ◌<◌, length, take, set, replicate, arith, length-set, add-one, take_all}
use Rattle.std.proofs.lemmas.List.{get_or-replicate, get_or-set_same, get_or-set_other}
use Rattle.std.proofs.Math.Decide.{ℕ_discrete}
use Rattle.std.specs.List.{list_all, enumerate_from}
use Rattle.rows.specs.Definition.Lists.{at, tally}
use Rattle.rows.specs.Definition.Tests.{stands}
use Rattle.rows.proofs.Tests.{all_numbered}
use Rattle.rows.specs.Laws.Counts.{tally-suc, one-yes, one-no}

-- each row's count over the first i of the chain
pub record Counted (chain : List ℕ) (i : ℕ) (times : List ℕ) : Type 0 where
  pub long : length times ≡ 32
  pub rows : (r : ℕ) → r < 32 → at times r ≡ tally r (take i chain)

pub counted_none : (chain : List ℕ) → Counted chain 0 (replicate 32 0)
counted_none chain = record { long = refl; rows = λ r h. get_or-replicate 32 r 0 0 h }

module _ (chain : List ℕ) (i : ℕ) (times : List ℕ) (h : i < length chain) (m : Counted chain i times) where
  pub counted-more : at chain i < 32 → Counted chain (i + 1) (set times (at chain i) (at times (at chain i) + 1))
  counted-more l =
      let k = at chain i in
      record {
        long = length-set times k (at times k + 1) ∙ m.long;
        rows = λ r g. rw (add-one i) (elim (ℕ_discrete r k) [
          | yes q ↦ rw (q, get_or-set_same times k (at times k + 1) 0 (omega (arith, m.long))) (omega (arith, m.rows k l, tally-suc k chain i h, one-yes k k refl))
          | no q ↦ get_or-set_other times k r (at times k + 1) 0 q ∙ omega (arith, m.rows r g, tally-suc r chain i h, one-no r k (λ e. q (sym e)))
        ]);
      }

  -- an entry that is no row
  pub counted_same : 32 ≤ at chain i → Counted chain (i + 1) times
  counted_same l = record { long = m.long; rows = λ r g. rw (add-one i) (omega (arith, m.rows r g, tally-suc r chain i h, one-no r (at chain i) (λ e. omega arith))) }

pub counted_end : (chain : List ℕ) (i : ℕ) (times : List ℕ) → length chain ≤ i → Counted chain i times → (r : ℕ) → r < 32 → at times r ≡ tally r chain
counted_end chain i times h m r g = rw (sym (take_all i chain h)) (m.rows r g)

-- rows of 32 classes, asked by the counts
pub stand_same : (classes chain times : List ℕ) (last : ℕ) → length classes ≤ 32 → ((r : ℕ) → r < 32 → at times r ≡ tally r chain)
    → list_all (λ (x : ℕ × ℕ). stands x.1 (at times x.0) last x.0) (enumerate_from 0 classes) ≡ list_all (λ (x : ℕ × ℕ). stands x.1 (tally x.0 chain) last x.0) (enumerate_from 0 classes)
stand_same classes chain times last l e =
    all_numbered (λ (i c : ℕ). stands c (at times i) last i) 0 classes (length classes) (λ i. stands (at classes i) (tally i chain) last i) (omega arith)
    (λ i h. rw (e i (omega arith))) (λ i h k. absurd (omega arith))
    ∙ sym (all_numbered (λ (i c : ℕ). stands c (tally i chain) last i) 0 classes (length classes) (λ i. stands (at classes i) (tally i chain) last i) (omega arith) (λ i h. refl) (λ i h k. absurd (omega arith)))

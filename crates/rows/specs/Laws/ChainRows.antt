-- The chain grows and shrinks: what one step keeps.
use Rattle.std.specs.Prelude.{◌≡◌, refl, List, [], ◌∷◌, ℕ, suc, ◌+◌, ◌-◌, ◌≤◌, ◌<◌, min, length, take, set}
use Rattle.std.proofs.Common.{ap, sym, ◌∙◌, add-one, arith, ne_eqb, length-take, take-suc-set, get_or-set_same, get_or-set_other, get_or-take}
use Rattle.std.proofs.Math.Decide.{dec_le, dec_lt, ℕ_discrete}
use Rattle.std.proofs.lemmas.List.{take-set-le}
use Rattle.rows.specs.Definition.Lists.{at, tally, sum_to}
use Rattle.rows.specs.Definition.Classes.{FREE, SYSTEM, SHARED, in_chain, times_held}
use Rattle.rows.specs.Laws.Counts.{one, one-yes, one-no, tally-append, tally-suc, cond-most, sum-tally, sum_same, tally-sum, sum-plus, sum-most}
use Rattle.rows.specs.Definition.Good.{ClassesGood, ChainGood}

-- a class that the chain holds, other than shared, is system
pub held-yes : (c : ℕ) → 1 ≤ times_held c → (c ≡ SHARED → ⊥) → c ≡ SYSTEM
held-yes c h n =
    elim (ℕ_discrete c SYSTEM) [
      | yes q ↦ q
      | no q ↦ absurd (omega (arith, (rw (ne_eqb c SYSTEM q, ne_eqb c SHARED n) at h)))
    ]

-- a class stored at a row
module _ (n : ℕ) (cs : List ℕ) (row v : ℕ) (l : length cs ≡ 32) where
  pub at_same : row < 32 → at (set cs row v) row ≡ v
  at_same h = get_or-set_same cs row v 0 (omega arith)

  pub at_other : (i : ℕ) → (i ≡ row → ⊥) → at (set cs row v) i ≡ at cs i
  at_other i h = get_or-set_other cs row i v 0 h

  pub classes-set : n ≤ 32 → 1 ≤ row → row < n → FREE ≤ v → v ≤ SHARED → ClassesGood n cs → ClassesGood n (set cs row v)
  classes-set m p h a b g = record {
    page = at_other 0 (λ e. omega arith) ∙ g.page;
    some = λ i s t. elim (ℕ_discrete i row) [ yes q ↦ rw (q, at_same (omega arith)) a | no q ↦ rw (at_other i q) (g.some i s t) ];
    most = λ i t. elim (ℕ_discrete i row) [ yes q ↦ rw (q, at_same (omega arith)) b | no q ↦ rw (at_other i q) (g.most i t) ];
    rest = λ i s t. at_other i (λ e. omega arith) ∙ g.rest i s t;
  }

  -- a class of the same kind: the chain stays exact
  pub exact-set : (chain : List ℕ) (held : ℕ) → row < 32 → times_held v ≡ times_held (at cs row)
      → ((r : ℕ) → r < n → tally r (take held chain) ≡ times_held (at cs r)) → (r : ℕ) → r < n → tally r (take held chain) ≡ times_held (at (set cs row v) r)
  exact-set chain held h e x r g =
      elim (ℕ_discrete r row) [
        | yes q ↦ rw (q, at_same h, e) (x row (rw q at g))
        | no q ↦ rw (at_other r q) (x r g)
      ]

-- one further segment
module _ (n : ℕ) (cs chain : List ℕ) (held row : ℕ) (lc : length cs ≡ 32) (ln : length chain ≡ 32) (m : n ≤ 32) (hb : held < 32)
    (here : at cs row ≡ FREE) (within : row < 32) (k : ClassesGood n cs) (g : ChainGood n cs chain held) where
  row-known : row < n
  row-known = elim (dec_lt row n) [ yes q ↦ q | no q ↦ absurd (omega (arith, k.rest row (omega arith) within)) ]

  row-some : 1 ≤ row
  row-some = elim (dec_le 1 row) [ yes q ↦ q | no q ↦ let z : row ≡ 0 = omega arith in absurd (omega (arith, k.page, (rw z at here))) ]

  pub more-classes : ClassesGood n (set cs row SYSTEM)
  more-classes = classes-set n cs row SYSTEM lc m row-some row-known (omega arith) (omega arith) k

  more-tally : (r : ℕ) → tally r (take (held + 1) (set chain held row)) ≡ tally r (take held chain) + one r row
  more-tally r = rw (add-one, take-suc-set chain held row (omega arith)) (omega (arith, tally-append r (take held chain) (row ∷ [])))

  pub more-chain : (at cs (at chain (held - 1)) ≡ SHARED → ⊥) → ChainGood n (set cs row SYSTEM) (set chain held row) (held + 1)
  more-chain apart = record {
    holds = omega arith;
    most = omega arith;
    starts = get_or-set_other chain held 0 row 0 (λ e. omega (arith, g.holds)) ∙ g.starts;
    rows = λ i h. elim (ℕ_discrete i held) [
      | yes q ↦ rw (q, get_or-set_same chain held row 0 (omega arith)) row-known
      | no q ↦ rw (get_or-set_other chain held i row 0 q) (g.rows i (omega arith))
    ];
    exact = λ r h. elim (ℕ_discrete r row) [
      | yes q ↦ more-tally r ∙ rw (q, g.exact row row-known, here, get_or-set_same cs row SYSTEM 0 (omega arith), one-yes row row refl)
      | no q ↦ more-tally r ∙ rw (get_or-set_other cs row r SYSTEM 0 q, g.exact r h, one-no r row (λ e. q (sym e))) (omega arith)
    ];
    last = λ r h e. elim (ℕ_discrete r row) [
      | yes q ↦ absurd (omega (arith, sym (get_or-set_same cs row SYSTEM 0 (omega arith)), (rw q at e)))
      | no q ↦ let f : at cs r ≡ SHARED = sym (get_or-set_other cs row r SYSTEM 0 q) ∙ e in absurd (apart (rw (g.last r h f) f))
    ];
    rest = λ i h b. get_or-set_other chain held i row 0 (λ e. omega arith) ∙ g.rest i (omega arith) b;
  }

-- the chain's last segment given up
module _ (n : ℕ) (cs chain : List ℕ) (held : ℕ) (lc : length cs ≡ 32) (ln : length chain ≡ 32) (m : n ≤ 32) (two : 1 < held) (hb : held ≤ 32)
    (k : ClassesGood n cs) (g : ChainGood n cs chain held) where
  less-tally : (r : ℕ) → tally r (take held chain) ≡ tally r (take (held - 1) (set chain (held - 1) 0)) + one r (at chain (held - 1))
  less-tally r =
      let e : held ≡ suc (held - 1) = omega arith in
      rw (take-set-le (held - 1) chain (held - 1) 0 (omega arith)) (ap (λ (i : ℕ). tally r (take i chain)) e ∙ tally-suc r chain (held - 1) (omega arith))

  -- its class is system or shared
  less-class : 1 ≤ times_held (at cs (at chain (held - 1)))
  less-class =
      let b = g.rows (held - 1) (omega arith) in
      omega (arith, g.exact (at chain (held - 1)) b, less-tally (at chain (held - 1)), one-yes (at chain (held - 1)) (at chain (held - 1)) refl)

  less-some : 1 ≤ at chain (held - 1)
  less-some = elim (dec_le 1 (at chain (held - 1))) [
    | yes q ↦ q
    | no q ↦ let z : at chain (held - 1) ≡ 0 = omega arith in absurd (omega (arith, (rw (z, k.page) at less-class)))
  ]

  pub less-classes : (v : ℕ) → FREE ≤ v → v ≤ SHARED → ClassesGood n (set cs (at chain (held - 1)) v)
  less-classes v a b = classes-set n cs (at chain (held - 1)) v lc m less-some (g.rows (held - 1) (omega arith)) a b k

  pub less-chain : (v : ℕ) → times_held v ≡ 0 → (v ≡ SHARED → ⊥) → ChainGood n (set cs (at chain (held - 1)) v) (set chain (held - 1) 0) (held - 1)
  less-chain v z five =
      let w = at chain (held - 1) in
      let wn : w < n = g.rows (held - 1) (omega arith) in
      record {
        holds = omega arith;
        most = omega arith;
        starts = get_or-set_other chain (held - 1) 0 0 0 (λ e. omega arith) ∙ g.starts;
        rows = λ i h. rw (get_or-set_other chain (held - 1) i 0 0 (λ e. omega arith)) (g.rows i (omega arith));
        exact = λ r h. elim (ℕ_discrete r w) [
          | yes q ↦ rw (q, get_or-set_same cs w v 0 (omega arith), z) (omega (arith, less-tally w, one-yes w w refl, g.exact w wn, cond-most (in_chain (at cs w))))
          | no q ↦ rw (get_or-set_other cs w r v 0 q) (omega (arith, less-tally r, one-no r w (λ e. q (sym e)), g.exact r h))
        ];
        last = λ r h e. elim (ℕ_discrete r w) [
          | yes q ↦ absurd (five (sym (get_or-set_same cs w v 0 (omega arith)) ∙ (rw q at e)))
          | no q ↦ absurd (q (sym (g.last r h (sym (get_or-set_other cs w r v 0 q) ∙ e))))
        ];
        rest = λ i h b. elim (ℕ_discrete i (held - 1)) [
          | yes q ↦ rw (q, get_or-set_same chain (held - 1) 0 0 (omega arith))
          | no q ↦ get_or-set_other chain (held - 1) i 0 0 q ∙ g.rest i (omega arith) b
        ];
      }

-- held and free segments are not more than there are
pub one-kind : (c : ℕ) → times_held c + one FREE c ≤ 1
one-kind c =
    elim (ℕ_discrete c FREE) [
      | yes q ↦ rw q (omega arith)
      | no q ↦ omega (arith, one-no FREE c q, cond-most (in_chain c))
    ]

pub counted : (n : ℕ) (cs chain : List ℕ) (held : ℕ) → length cs ≡ 32 → length chain ≡ 32 → 1 ≤ n → n ≤ 32 → ClassesGood n cs → ChainGood n cs chain held
    → held + tally FREE (take n cs) < n
counted n cs chain held lc ln a b k g =
    let t = take held chain in
    let lt : length t ≡ min held (length chain) = length-take held chain in
    let all : sum_to n (λ r. tally r t) ≡ length t = sum-tally n t (λ i h. rw (get_or-take held chain i 0 (omega arith)) (g.rows i (omega arith))) in
    let same : sum_to n (λ r. tally r t) ≡ sum_to n (λ r. times_held (at cs r)) = sum_same n _ _ g.exact in
    let free : tally FREE (take n cs) ≡ sum_to n (λ i. one FREE (at cs i)) = tally-sum FREE n cs (omega arith) in
    let both = sum-plus n (λ r. times_held (at cs r)) (λ i. one FREE (at cs i)) in
    let most = sum-most n (λ i. times_held (at cs i) + one FREE (at cs i)) a (rw k.page) (λ i h. one-kind (at cs i)) in
    omega arith

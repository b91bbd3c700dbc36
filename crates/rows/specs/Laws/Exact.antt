-- "exactly the system and shared segments without a repeat": from the counts, as a reader would say it.
use Rattle.std.specs.Prelude.{◌≡◌, List, ℕ, ◌-◌, ◌≤◌, ◌<◌, length, get_or, take}
use Rattle.std.proofs.Common.{sym, ◌∙◌, arith, length-take, get_or-take}
use Rattle.rows.specs.Definition.Lists.{at, tally}
use Rattle.rows.specs.Definition.Classes.{SHARED, in_chain, times_held}
use Rattle.rows.specs.Laws.Counts.{tally-some, tally-two, last_found, cond-most}
use Rattle.rows.specs.Definition.Good.{ChainGood}

-- the reader's form of "exactly the system and shared segments without a repeat"
pub record Exactly (n : ℕ) (classes chain : List ℕ) (held : ℕ) : Type 0 where
  pub only : (i : ℕ) → i < held → 1 ≤ times_held (at classes (at chain i))
  pub all : (row : ℕ) → row < n → 1 ≤ times_held (at classes row) → (i : ℕ) × (i < held) × (at chain i ≡ row)
  pub once : (i j : ℕ) → i < j → j < held → at chain i ≡ at chain j → ⊥

module _ (n : ℕ) (cs chain : List ℕ) (held : ℕ) (l : length chain ≡ 32) (most : held ≤ 32) (rows : (i : ℕ) → i < held → at chain i < n) where
  long : length (take held chain) ≡ held
  long = omega (arith, length-take held chain)

  place : (i : ℕ) → i < held → get_or (take held chain) i 0 ≡ at chain i
  place i h = get_or-take held chain i 0 h

  pub exactly : ((row : ℕ) → row < n → tally row (take held chain) ≡ times_held (at cs row)) → Exactly n cs chain held
  exactly x = record {
    only = λ i h. omega (arith, x (at chain i) (rows i h), tally-some (at chain i) (take held chain) i (omega (arith, long)) (place i h));
    all = λ row h c. let f = last_found row (take held chain) (omega (arith, x row h)) in
        let w : f.place < held = omega (arith, f.within, long) in (f.place, w, sym (place f.place w) ∙ f.here);
    once = λ i j h k e. omega (arith, tally-two (at chain j) (take held chain) i j h (omega (arith, long)) (place i (omega arith) ∙ e) (place j k), x (at chain j) (rows j k), cond-most (in_chain (at cs (at chain j))));
  }

-- "at most one segment is shared"
pub one-shared : (n : ℕ) (cs chain : List ℕ) (held : ℕ) → ChainGood n cs chain held
    → (i j : ℕ) → i < n → j < n → at cs i ≡ SHARED → at cs j ≡ SHARED → i ≡ j
one-shared n cs chain held g i j h k p q = sym (g.last i h p) ∙ g.last j k q

-- "255 is system or shared"
pub top-held : (n : ℕ) (cs chain : List ℕ) (held : ℕ) → length chain ≡ 32 → ChainGood n cs chain held → 1 ≤ times_held (at cs (n - 1))
top-held n cs chain held l g = rw g.starts at ((exactly n cs chain held l g.most g.rows g.exact).only 0 g.holds)

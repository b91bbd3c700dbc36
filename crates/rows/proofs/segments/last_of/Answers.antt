-- `segments::last_of` meets its contract.
use Rattle.std.proofs.Common.{rules, ◌≡◌, sym, ℕ, List, length, ◌<◌, Option, Some, None, MatchOption}
use Rattle.rows.specs.Definition.Lists.{at, last_of}
use Rattle.rows.specs.Laws.Lists.{last_none, last-here}
use Rattle.rows.proofs.segments.last_of.Goals as goal

abbrev Last : ℕ → List ℕ → Option ℕ → Type 0
Last k xs r = MatchOption r ((j : ℕ) → j < length xs → at xs j ≡ k → ⊥) (λ i. (i < length xs) × ((j : ℕ) → i < j → j < length xs → at xs j ≡ k → ⊥) × (at xs i ≡ k))

last : (k : ℕ) (xs : List ℕ) (r : Option ℕ) → Last k xs r → r ≡ last_of k xs
last k xs None h = sym (last_none k xs h)
last k xs (Some i) h = sym (last-here k xs i h.0 h.1 h.2)

pub returns : goal.returns
returns c = last c.args.k c.args.xs.now _ (search rules)

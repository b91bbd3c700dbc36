-- `segments::count_of` meets its contract. The loop's invariant: how many of the elements passed are `k`.
use Rattle.std.proofs.Common.{◌≡◌, take}
use Rattle.rows.specs.Definition.Lists.{tally}
use Rattle.rows.proofs.segments.count_of.Given as goal

abbrev pub invariant-loop-x : goal.invariant-loop-x
invariant-loop-x l = l.found ≡ tally l.k (take l.x-index l.xs)

-- `segments::tallies` meets its contract. The loop's invariant: each row's count over the entries passed.
use Rattle.rows.proofs.Counted.{Counted}
use Rattle.rows.proofs.segments.tallies.Given as goal

abbrev pub invariant-loop-row : goal.invariant-loop-row
invariant-loop-row l = Counted l.chain l.row-index l.times

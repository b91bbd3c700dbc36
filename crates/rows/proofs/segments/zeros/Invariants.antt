-- `segments::zeros` meets its contract. The loop's invariant: `ok` is the test over the elements passed.
use Rattle.std.proofs.Common.{◌≡◌, take, eqb}
use Rattle.std.specs.List.{list_all}
use Rattle.rows.proofs.segments.zeros.Given as goal

abbrev pub invariant-loop-x : goal.invariant-loop-x
invariant-loop-x l = l.ok ≡ list_all (λ x. eqb x 0) (take l.x-index l.xs)

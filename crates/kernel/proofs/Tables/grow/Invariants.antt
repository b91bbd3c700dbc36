-- `Tables::grow` meets its contract.
use Rattle.std.proofs.Common.{◌≡◌, ◌≤◌, ◌-◌, ◌+◌}
use Rattle.kernel.specs.Definition.Line.{grown}
use Rattle.kernel.proofs.Tables.grow.Given as goal

abbrev pub invariant-loop : goal.invariant-loop
invariant-loop l = (l.t.held + (l.k - l.counter) ≤ 32) × (grown (l.k - l.counter) l.t ≡ grown l.k l.initial.t)

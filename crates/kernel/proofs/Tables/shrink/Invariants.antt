-- `Tables::shrink` meets its contract.
use Rattle.std.proofs.Common.{◌≡◌, ◌-◌, ◌<◌}
use Rattle.kernel.specs.Definition.Line.{shrunk}
use Rattle.kernel.specs.Within.{Fit}
use Rattle.kernel.proofs.Tables.shrink.Given as goal

abbrev pub invariant-loop : goal.invariant-loop
invariant-loop l = (l.k - l.counter < l.t.held) × Fit l.t × (shrunk (l.k - l.counter) l.t ≡ shrunk l.k l.initial.t)

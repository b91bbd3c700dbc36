-- `Line::get` has got the first k bytes. A turn gets a run.
use Rattle.std.proofs.Common.{◌≡◌, ◌-◌, ◌≤◌}
use Rattle.line.specs.Definition.Ram.{filled}
use Rattle.line.specs.Definition.Line.{line_from}
use Rattle.line.proofs.Line.get.Given as goal

abbrev pub invariant-loop-k : goal.invariant-loop-k
invariant-loop-k l = (l.out ≡ filled l.k (line_from l.self.chain l.self.room l.ram l.start l.k) l.initial.out) × (l.k ≤ l.count)

abbrev pub decreases-loop-k : goal.decreases-loop-k
decreases-loop-k l = l.count - l.k

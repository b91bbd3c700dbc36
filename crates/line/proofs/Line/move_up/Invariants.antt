-- `Line::move_up` has given positions start to p - 1 their new bytes, and as many were moved. A turn moves a run.
use Rattle.std.proofs.Common.{◌≡◌, ◌+◌, ◌-◌, ◌≤◌}
use Rattle.line.specs.Definition.Line.{line_from, put_line}
use Rattle.line.proofs.Line.move_up.Given as goal

abbrev pub invariant-loop-p : goal.invariant-loop-p
invariant-loop-p l = (l.ram ≡ put_line l.self.chain l.self.room l.initial.ram l.start (line_from l.self.chain l.self.room l.initial.ram (l.start + l.gap) (l.p - l.start))) × (l.start ≤ l.p) × (l.p ≤ l.end) × (l.moved ≡ l.p - l.start)

abbrev pub decreases-loop-p : goal.decreases-loop-p
decreases-loop-p l = l.end - l.p

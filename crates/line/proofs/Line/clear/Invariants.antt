-- `Line::clear` has zeroed positions start to p - 1. A turn zeroes a run.
use Rattle.std.proofs.Common.{◌≡◌, ◌-◌, ◌≤◌, replicate}
use Rattle.line.specs.Definition.Line.{put_line}
use Rattle.line.proofs.Line.clear.Given as goal

abbrev pub invariant-loop-p : goal.invariant-loop-p
invariant-loop-p l = (l.ram ≡ put_line l.self.chain l.self.room l.initial.ram l.start (replicate (l.p - l.start) 0)) × (l.start ≤ l.p) × (l.p ≤ l.end)

abbrev pub decreases-loop-p : goal.decreases-loop-p
decreases-loop-p l = l.end - l.p

-- `Line::put` has put the first k bytes of xs. A turn puts a run.
use Rattle.std.proofs.Common.{◌≡◌, ◌-◌, ◌≤◌, length, take}
use Rattle.line.specs.Definition.Line.{put_line}
use Rattle.line.proofs.Line.put.Given as goal

abbrev pub invariant-loop-k : goal.invariant-loop-k
invariant-loop-k l = (l.ram ≡ put_line l.self.chain l.self.room l.initial.ram l.start (take l.k l.xs)) × (l.k ≤ length l.xs)

abbrev pub decreases-loop-k : goal.decreases-loop-k
decreases-loop-k l = length l.xs - l.k

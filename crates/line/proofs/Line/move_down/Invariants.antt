-- `Line::move_down` has moved each byte m positions on, from the end of the line back to position p, and counted them. A turn moves a run.
use Rattle.std.proofs.Common.{◌≡◌, ◌+◌, ◌-◌, ◌≤◌}
use Rattle.line.specs.Definition.Ram.{bytes_from, put_from}
use Rattle.line.proofs.Moves.{back}
use Rattle.line.proofs.Line.move_down.Given as goal

abbrev pub invariant-loop-p : goal.invariant-loop-p
invariant-loop-p l = (l.ram ≡ put_from (back l.self.chain l.self.room l.total l.m) l.initial.ram 0 (bytes_from (back l.self.chain l.self.room l.total 0) l.initial.ram 0 (l.total - l.p))) × (l.p ≤ l.total) × (l.moved + l.p ≡ l.total)

abbrev pub decreases-loop-p : goal.decreases-loop-p
decreases-loop-p l = l.p

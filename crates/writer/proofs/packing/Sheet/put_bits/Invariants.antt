-- `put_bits` puts a byte a turn. The invariant: the bytes put and the bits left are all bits.
use Rattle.std.proofs.Common.{◌≡◌, ◌+◌, ◌*◌}
use Rattle.writer.specs.Within.Packing.{place}
use Rattle.writer.specs.Laws.Packing.{Turns}
use Rattle.writer.proofs.packing.Sheet.put_bits.Given as goal

abbrev pub invariant-loop-count : goal.invariant-loop-count
invariant-loop-count l = Turns (place l.initial.self) (place l.self) l.held l.initial.count l.count × (8 * l.self.pen.at + l.count ≡ 8 * l.initial.self.pen.at + l.initial.count)

abbrev pub decreases-loop-count : goal.decreases-loop-count
decreases-loop-count l = l.count

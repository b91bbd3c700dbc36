-- `field` puts at most five digits and a space.
use Rattle.std.proofs.Common.{arith}
use Rattle.text.specs.Laws.Text.{room-left}
use Rattle.text.proofs.Numerals.{short}
use Rattle.text.proofs.Cursor.field.Goals as goal

pub decimal-requires : goal.decimal-requires
decimal-requires c = rw c.from.ensures (omega (arith, short c.args.n c.ranges.n.fits, c.requires))

pub put-requires : goal.put-requires
put-requires c = room-left c.decimal.ensures 5 1 (rw c.from.ensures (short c.args.n c.ranges.n.fits)) c.requires

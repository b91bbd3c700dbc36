-- `fields` puts three numbers with a space behind each, and a fourth.
use Rattle.std.proofs.Common.{arith}
use Rattle.text.specs.Definition.Text.{fields_of}
use Rattle.text.specs.Laws.Text.{puts_then, room-left}
use Rattle.text.proofs.Numerals.{short, field-short}
use Rattle.text.proofs.Cursor.fields.Goals as goal

pub field-requires-2 : goal.field-requires-2
field-requires-2 c = omega (arith, room-left c.field.ensures 6 17 (field-short c.args.kind c.ranges.kind.fits) c.requires)

pub field-requires-3 : goal.field-requires-3
field-requires-3 c =
    omega (arith, room-left c.field-2.ensures 6 11 (field-short c.args.answer c.ranges.answer.fits) (room-left c.field.ensures 6 17 (field-short c.args.kind c.ranges.kind.fits) c.requires))

pub decimal-requires : goal.decimal-requires
decimal-requires c =
    let one = room-left c.field.ensures 6 17 (field-short c.args.kind c.ranges.kind.fits) c.requires in
    let two = room-left c.field-2.ensures 6 11 (field-short c.args.answer c.ranges.answer.fits) one in
    let three = room-left c.field-3.ensures 6 5 (field-short c.args.a c.ranges.a.fits) two in
    rw c.from.ensures (omega (arith, three, short c.args.b c.ranges.b.fits))

pub returns-clause-puts : goal.returns-clause-puts
unfolding fields_of
returns-clause-puts c = puts_then (puts_then (puts_then c.field.ensures c.field-2.ensures) c.field-3.ensures) (rw c.from.ensures at c.decimal.ensures)

pub returns-clause-within : goal.returns-clause-within
returns-clause-within c =
    let last = rw c.from.ensures at c.decimal.ensures in
    omega (arith, c.field.ensures.put.stop, c.field-2.ensures.put.stop, c.field-3.ensures.put.stop, last.put.stop, field-short c.args.kind c.ranges.kind.fits, field-short c.args.answer c.ranges.answer.fits, field-short c.args.a c.ranges.a.fits, short c.args.b c.ranges.b.fits)

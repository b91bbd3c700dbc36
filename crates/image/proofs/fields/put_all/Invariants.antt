-- `fields::put_all` puts a field a turn. The invariant: the first of them are put.
use Rattle.std.proofs.Common.{◌≡◌, ◌+◌, ◌*◌, take}
use Rattle.text.specs.Definition.Put.{Puts}
use Rattle.image.specs.Definition.Image.{rows_bytes}
use Rattle.image.proofs.fields.put_all.Given as goal

abbrev pub invariant-loop-row : goal.invariant-loop-row
invariant-loop-row g l =
    Puts l.initial.to l.to (rows_bytes g.F.Field.bytes (take l.row-index l.rows)) × (l.to.at ≡ l.initial.to.at + g.F.Field.SIZE * l.row-index)

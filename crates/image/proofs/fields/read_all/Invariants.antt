-- `fields::read_all` reads a row a turn. The invariant: the first i rows are read.
use Rattle.std.proofs.Common.{◌≡◌, drop, take}
use Rattle.image.specs.Definition.Image.{rows_of}
use Rattle.image.proofs.fields.read_all.Given as goal

abbrev pub invariant-loop-i : goal.invariant-loop-i
invariant-loop-i g l = take l.i l.rows ≡ rows_of g.R.Row.from g.R.Field.SIZE l.i (drop l.at l.image)

use Rattle.std.proofs.Common.{arith}
use Rattle.image.specs.Laws.Bytes.{row_read}
use Rattle.image.proofs.fields.read_all.Goals as goal

pub loop-i-preserved : goal.loop-i-preserved
loop-i-preserved g c =
    let l = c.loop-i in
    row_read g.R.Row.from g.R.Field.SIZE l.rows c.args.image.now c.args.at l.i c.read.result (omega arith) (rw c.SIZE.ensures at c.read.ensures) l.invariant

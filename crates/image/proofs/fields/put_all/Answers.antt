use Rattle.std.proofs.Common.{arith}
use Rattle.image.specs.Laws.Bytes.{row_put}
use Rattle.image.proofs.fields.put_all.Goals as goal

pub loop-row-preserved : goal.loop-row-preserved
loop-row-preserved g c =
    let l = c.loop-row in
    let p = c.put.ensures in
    (row_put g.F.Field.bytes c.args.rows.now l.row-index c.row-item.result (omega arith) c.row-item.is l.invariant.0 p.0, omega (arith, p.1))

-- `tables::put_rows` puts the channels and the devices, each behind their number.
use Rattle.std.proofs.Common.{arith}
use Rattle.text.specs.Laws.Text.{puts_then}
use Rattle.image.specs.Definition.Image.{row_bytes}
use Rattle.image.proofs.tables.put_rows.Goals as goal

pub returns : goal.returns
unfolding row_bytes
returns c =
    let p = c.put.ensures in
    let q = c.put_all.ensures in
    let r = c.put-2.ensures in
    let s = c.put_all-2.ensures in
    (puts_then (puts_then (puts_then p q.0) r) s.0, omega (arith, c.requires.0, p.put.stop, q.1, r.put.stop, s.1))

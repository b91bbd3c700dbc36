-- `tables::put_segments` puts the list, the classes and the chain.
use Rattle.std.proofs.Common.{arith}
use Rattle.text.specs.Laws.Text.{puts_then}
use Rattle.image.specs.Definition.Image.{segment_bytes}
use Rattle.image.proofs.tables.put_segments.Goals as goal

pub returns : goal.returns
unfolding segment_bytes
returns c =
    let p = c.put.ensures in
    let q = c.put_run.ensures in
    let r = c.put_run-2.ensures in
    let s = c.put-2.ensures in
    let u = c.put_run-3.ensures in
    (puts_then (puts_then (puts_then (puts_then p q) r) s) u, omega (arith, c.requires.0, p.put.stop, q.put.stop, r.put.stop, s.put.stop, u.put.stop))

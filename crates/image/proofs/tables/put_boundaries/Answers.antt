-- `tables::put_boundaries` puts three numbers.
use Rattle.std.proofs.Common.{arith}
use Rattle.text.specs.Laws.Text.{puts_then}
use Rattle.image.specs.Definition.Image.{boundary_bytes}
use Rattle.image.proofs.tables.put_boundaries.Goals as goal

pub returns : goal.returns
unfolding boundary_bytes
returns c =
    let p = c.put.ensures in
    let q = c.put-2.ensures in
    let r = c.put-3.ensures in
    (puts_then (puts_then p.0 q.0) r.0, omega (arith, c.requires.0, p.1, q.1, r.1))

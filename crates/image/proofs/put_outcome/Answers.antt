-- `put_outcome` puts ten bytes.
use Rattle.std.proofs.Common.{arith}
use Rattle.text.specs.Laws.Text.{puts_then}
use Rattle.image.proofs.put_outcome.Goals as goal

pub returns : goal.returns
returns c =
    let p = c.put_answer.ensures in
    let q = c.put.ensures in
    (puts_then p q.0, omega (arith, p.put.stop, q.1))

-- `put_answer` puts six bytes.
use Rattle.text.specs.Laws.Text.{puts_then}
use Rattle.image.proofs.put_answer.Goals as goal

pub returns : goal.returns
returns c =
    let p = rw (c.from.ensures, c.number.ensures) at c.put.ensures in
    let q = rw (c.from-2.ensures, c.a.ensures) at c.put-2.ensures in
    let r = rw c.b.ensures at c.put-3.ensures in
    puts_then (puts_then p.0 q.0) r.0

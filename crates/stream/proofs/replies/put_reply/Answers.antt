-- `replies::put_reply` puts 50 bytes.
use Rattle.std.proofs.Common.{ap, arith}
use Rattle.text.specs.Laws.Text.{puts_then}
use Rattle.image.specs.Laws.Bytes.{puts_same}
use Rattle.image.specs.Definition.Image.{u64_bytes}
use Rattle.stream.proofs.replies.put_reply.Goals as goal

pub returns : goal.returns
returns c =
    let p = c.put_outcome.ensures in
    let q = c.put.ensures in
    let r = c.put-2.ensures in
    let s = c.put-3.ensures in
    let u = c.put_lent.ensures in
    let image = puts_then p.0 (puts_same (ap u64_bytes c.image_digest.ensures) q.0) in
    let ram = puts_then image (puts_same (ap u64_bytes c.digest.ensures) r.0) in
    let output = puts_then ram (puts_same (ap u64_bytes c.digest-2.ensures) s.0) in
    (puts_then output u.0, omega (arith, p.1, q.1, r.1, s.1, u.1))

-- `replies::put_lent` puts 16 bytes.
use Rattle.std.proofs.Common.{ap, ◌∙◌, arith}
use Rattle.text.specs.Laws.Text.{puts_then}
use Rattle.image.specs.Laws.Bytes.{puts_same}
use Rattle.image.specs.Definition.Image.{u64_bytes}
use Rattle.stream.specs.Definition.Digest.{digest_of}
use Rattle.stream.specs.Definition.Replies.{start_of}
use Rattle.stream.proofs.replies.put_lent.Goals as goal

pub returns : goal.returns
returns c =
    let p = c.put.ensures in
    let q = c.put-2.ensures in (
      puts_then (puts_same (ap u64_bytes (c.unwrap_or-start.ensures ∙ ap start_of c.lent.ensures)) p.0) (puts_same (ap u64_bytes (c.digest.ensures ∙ ap digest_of c.lend.ensures)) q.0),
      omega (arith, p.1, q.1),
    )

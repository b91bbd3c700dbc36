-- `tables::encode` puts the four parts of an image.
use Rattle.std.proofs.Common.{rules, arith}
use Rattle.text.specs.Laws.Text.{puts_then, handed}
use Rattle.image.specs.Definition.Image.{image_of}
use Rattle.image.specs.Laws.Bytes.{whole}
use Rattle.image.proofs.tables.encode.Goals as goal

pub returns : goal.returns
unfolding image_of
returns c =
    let p = c.put_segments.ensures.0 in
    let q = c.put_boundaries.ensures.0 in
    let r = c.put_rows.ensures.0 in
    let s = c.put_default.ensures in
    whole (handed (puts_then (puts_then (puts_then p q) r) s.0) (search rules)) (omega (arith, s.1, c.requires))

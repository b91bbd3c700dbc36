use Rattle.std.proofs.Common.{◌∙◌, ap, length, arith}
use Rattle.image.specs.Definition.Image.{u32_bytes}
use Rattle.image.specs.Laws.Bytes.{puts_same}
use Rattle.image.proofs.LowBytes.{four_low}
use Rattle.image.proofs.fields.U32Field.put.Goals as goal

pub returns : goal.returns
unfolding u32_bytes
returns c =
    let e = c.to_le_bytes.ensures ∙ four_low c.args.self in
    let p = c.put_run.ensures in
    (puts_same e p, omega (arith, p.put.stop, ap length e))

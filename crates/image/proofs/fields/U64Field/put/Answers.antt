use Rattle.std.proofs.Common.{◌∙◌, ap, length, arith}
use Rattle.image.specs.Definition.Image.{u64_bytes}
use Rattle.image.specs.Laws.Bytes.{puts_same}
use Rattle.image.proofs.LowBytes.{eight_low}
use Rattle.image.proofs.fields.U64Field.put.Goals as goal

pub returns : goal.returns
unfolding u64_bytes
returns c =
    let e = c.to_le_bytes.ensures ∙ eight_low c.args.self in
    let p = c.put_run.ensures in
    (puts_same e p, omega (arith, p.put.stop, ap length e))

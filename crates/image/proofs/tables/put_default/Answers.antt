-- `tables::put_default` puts the default's name, length and unit.
use Rattle.std.proofs.Common.{sym, [], ◌∷◌, append_assoc, arith}
use Rattle.text.specs.Laws.Text.{puts_then}
use Rattle.image.specs.Definition.Image.{default_bytes}
use Rattle.image.specs.Laws.Bytes.{puts_same}
use Rattle.image.proofs.tables.put_default.Goals as goal

pub returns : goal.returns
unfolding default_bytes
returns c =
    let t = c.args.t.now in
    let p = c.put_run.ensures in
    let q = c.put_run-2.ensures in
    (puts_same (sym (append_assoc t.name (t.length ∷ []) (t.unit ∷ []))) (puts_then p q), omega (arith, c.requires.0, p.put.stop, q.put.stop))

use Rattle.std.proofs.Common.{◌≡◌, refl, sym, Bool, true, false, [], ◌∷◌, arith, append_assoc}
use mir.Val.{bool_byte}
use Rattle.text.specs.Laws.Text.{puts_then}
use Rattle.image.specs.Definition.Image.{bit_of}
use Rattle.image.specs.Laws.Bytes.{puts_same}
use Rattle.image.proofs.devices.DeviceField.put.Goals as goal

bit-is : (b : Bool) → bool_byte b ≡ bit_of b
bit-is true = refl
bit-is false = refl

pub returns : goal.returns
returns c =
    let d = c.args.self in
    let p = c.put_run.ensures in
    let q = rw (c.from.ensures, bit-is d.enabled) at c.put_run-2.ensures in
    (puts_same (sym (append_assoc d.name (d.length ∷ []) (bit_of d.enabled ∷ []))) (puts_then p q), omega (arith, p.put.stop, q.put.stop))

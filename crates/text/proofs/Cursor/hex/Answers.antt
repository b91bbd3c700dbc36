-- Each turn puts a byte's two digits.
use Rattle.std.proofs.Common.{◌<◌, arith, length, take, length-take-le}
use Rattle.text.specs.Laws.Text.{puts_then, hex-more, hex-length}
use Rattle.text.proofs.Cursor.hex.Goals as goal

pub put-requires : goal.put-requires
put-requires c =
    let l = c.loop-x in
    omega (arith, l.invariant.put.stop, l.invariant.long, c.requires, hex-length (take l.x-index c.args.bytes.now), length-take-le l.x-index c.args.bytes.now (omega arith))

pub put-requires-in-loop-x : goal.put-requires-in-loop-x
put-requires-in-loop-x c =
    let l = c.loop-x in
    omega (arith, c.put.ensures.put.stop, c.put.ensures.long, l.invariant.put.stop, l.invariant.long, c.requires, hex-length (take l.x-index c.args.bytes.now), length-take-le l.x-index c.args.bytes.now (omega arith))

pub loop-x-preserved : goal.loop-x-preserved
loop-x-preserved c =
    let l = c.loop-x in
    let bytes = c.args.bytes.now in
    let h : l.x-index < length bytes = omega arith in
    rw (hex-more bytes l.x-index h, ← c.nibble.ensures, ← c.nibble-in-loop-x.ensures) (puts_then (puts_then l.invariant c.put.ensures) c.put-in-loop-x.ensures)

use Rattle.std.proofs.Common.{◌+◌, length, arith}
use Rattle.line.specs.Laws.Places.{place_inside}
use Rattle.line.proofs.Turns.{part-length}
use Rattle.line.proofs.Line.put.Goals as goal

pub put_fall-requires : goal.put_fall-requires
put_fall-requires c =
    let line = c.args.self.now in
    let xs = c.args.xs.now in
    let k = c.loop-k.k in (
      omega (arith, part-length k c.min-n.result xs (omega arith)),
      omega (arith, c.place-d.ensures, place_inside line.chain line.room (c.args.start + length xs) (length c.args.ram.now) c.requires (c.args.start + k) (omega arith)),
    )

use Rattle.std.proofs.Common.{length, arith}
use Rattle.line.specs.Laws.Places.{place_inside}
use Rattle.line.proofs.Line.clear.Goals as goal

pub clear_fall-requires : goal.clear_fall-requires
clear_fall-requires c =
    let line = c.args.self.now in
    (omega arith, omega (arith, c.place-d.ensures, place_inside line.chain line.room c.args.end (length c.args.ram.now) c.requires.1 c.loop-p.p (omega arith)))

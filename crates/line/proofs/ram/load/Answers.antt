use Rattle.std.proofs.Common.{◌≡◌, ◌∙◌, arith}
use Rattle.line.proofs.Sides.{loaded}
use Rattle.line.proofs.ram.load.Goals as goal

pub returns : goal.returns
returns c =
    let l = c.loop-i in
    let done : l.i ≡ c.args.n = omega arith in
    rw done at l.invariant ∙ loaded c.args.at c.args.ram.now c.args.n c.args.out.now c.requires.0 c.requires.1

use Rattle.std.proofs.Common.{◌∙◌, take_all}
use Rattle.line.proofs.Sides.{rise-put}
use Rattle.line.proofs.ram.store.Goals as goal

pub returns : goal.returns
returns c =
    let l = c.loop-i in
    let xs = c.args.xs.now in
    rw (take_all l.i xs c.loop-i-test.false) at l.invariant ∙ rise-put c.args.at xs c.args.ram.now c.requires

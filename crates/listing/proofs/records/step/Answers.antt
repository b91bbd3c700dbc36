-- `listing::step` meets its contract: the call's lent RAM is its own, and the rest stays.
use Rattle.listing.proofs.Calls.{left, good-after}
use Rattle.listing.proofs.records.step.Goals as goal

pub returns : goal.returns
returns c =
    let n = c.lent-n in
    let k = c.call in (
      left c.args.t c.args.ram.now c.args.out.now c.args.kind c.args.body.now n.result n.ensures.0 k.result _ _ k.ensures,
      good-after c.args.t c.args.ram.now c.args.out.now c.args.kind c.args.body.now n.result n.ensures.0 k.result _ _ k.ensures c.requires.1 c.requires.0,
    )

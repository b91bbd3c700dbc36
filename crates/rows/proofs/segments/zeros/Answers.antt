use Rattle.std.proofs.Common.{eqb, take_all}
use Rattle.std.proofs.lemmas.List.Folds.{list_all_more}
use Rattle.rows.proofs.segments.zeros.Goals as goal

pub loop-x-preserved : goal.loop-x-preserved
loop-x-preserved c =
    let l = c.loop-x in
    rw (list_all_more (λ x. eqb x 0) c.args.xs.now l.x-index 0 c.loop-x-test.true, l.invariant)

pub returns : goal.returns
returns c = rw (take_all c.loop-x.x-index c.args.xs.now c.loop-x-test.false) at c.loop-x.invariant

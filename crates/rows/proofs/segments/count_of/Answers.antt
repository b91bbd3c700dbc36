use Rattle.std.proofs.Common.{rules, ◌+◌, ◌≤◌, length, take, get_or, arith, add-one, length-take, take_all}
use Rattle.rows.specs.Laws.Counts.{one-yes, one-no, tally-suc, tally-length}
use Rattle.rows.proofs.segments.count_of.Goals as goal
use Rattle.rows.proofs.segments.count_of.Goals.{then-x-k, else-x-k}

pub overflow_add-found : goal.overflow_add-found
overflow_add-found c =
    let l = c.loop-x in
    let xs = c.args.xs.now in
    let fewer : l.found + 1 ≤ length xs =
    omega (arith, l.invariant, c.loop-x-test.true, tally-length c.args.k (take l.x-index xs), length-take l.x-index xs) in
    search rules

pub loop-x-preserved : goal.loop-x-preserved
loop-x-preserved c =
    let l = c.loop-x in
    let xs = c.args.xs.now in
    let k = c.args.k in
    elim c.if-x-k.branch [
      | then-x-k w ↦ rw (w.found-is, add-one l.x-index) (omega (arith, l.invariant, tally-suc k xs l.x-index c.loop-x-test.true, one-yes k (get_or xs l.x-index 0) w.if-x-k.true))
      | else-x-k w ↦ rw (w.found-is, add-one l.x-index) (omega (arith, l.invariant, tally-suc k xs l.x-index c.loop-x-test.true, one-no k (get_or xs l.x-index 0) w.if-x-k.false))
    ]

pub returns : goal.returns
returns c =
    let xs = c.args.xs.now in
    let e = rw (take_all c.loop-x.x-index xs c.loop-x-test.false) at c.loop-x.invariant in
    (e, omega (arith, e, tally-length c.args.k xs))

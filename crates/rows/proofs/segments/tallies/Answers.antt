use Rattle.std.proofs.Common.{arith, length-take, take}
use Rattle.rows.specs.Laws.Counts.{tally-length}
use Rattle.rows.proofs.Counted.{counted-more, counted_none, counted_same, counted_end}
use Rattle.rows.proofs.segments.tallies.Goals as goal
use Rattle.rows.proofs.segments.tallies.Goals.{then-row-lt32, else-row-lt32}

pub loop-row-init : goal.loop-row-init
loop-row-init c = counted_none c.args.chain.now

pub overflow_add-times : goal.overflow_add-times
overflow_add-times c =
    let at = c.loop-row in
    let row = c.from.result in
    omega (arith, at.invariant.rows row (omega arith), tally-length row (take at.row-index c.args.chain.now), length-take at.row-index c.args.chain.now)

pub loop-row-preserved : goal.loop-row-preserved
loop-row-preserved c =
    let at = c.loop-row in
    elim c.if-row-lt32.branch [
      | then-row-lt32 w ↦ rw (w.times-is, w.from.ensures) (counted-more c.args.chain.now at.row-index at.times (omega arith) at.invariant (omega arith))
      | else-row-lt32 w ↦ rw w.times-is (counted_same c.args.chain.now at.row-index at.times (omega arith) at.invariant (omega arith))
    ]

pub returns : goal.returns
returns c = counted_end c.args.chain.now c.loop-row.row-index c.loop-row.times c.loop-row-test.false c.loop-row.invariant

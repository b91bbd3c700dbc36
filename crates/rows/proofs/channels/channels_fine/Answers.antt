use Rattle.std.proofs.Common.{rules, refl, sym}
use Rattle.rows.proofs.Numbers.{seen_none, fits_next, fits_no, fits_all}
use Rattle.rows.proofs.channels.channels_fine.Goals as goal

pub loop-c-init : goal.loop-c-init
loop-c-init c = (seen_none, refl)

pub returns-then-not-fits : goal.returns-then-not-fits
returns-then-not-fits c =
    let l = c.loop-c in
    sym (fits_no c.args.channels.now c.args.known l.c-index c.loop-c-test.true c.from-number.result c.from.result l.seen c.from-number.ensures c.from.ensures (search rules) l.invariant.0 c.if-not-fits.true)

pub loop-c-preserved : goal.loop-c-preserved
loop-c-preserved c =
    let l = c.loop-c in
    fits_next c.args.channels.now c.args.known l.c-index c.loop-c-test.true c.from-number.result c.from.result l.seen c.from-number.ensures c.from.ensures (search rules) l.invariant.0 l.invariant.1 c.if-not-fits.false

pub returns : goal.returns
returns c = sym (fits_all c.args.channels.now c.args.known c.loop-c.c-index c.loop-c-test.false c.loop-c.invariant.1)

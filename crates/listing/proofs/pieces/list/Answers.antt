-- `listing::list` meets its contract.
use Rattle.std.proofs.Common.{refl, rules, arith, length-take-le}
use Rattle.text.specs.Laws.Text.{handed}
use Rattle.listing.proofs.Wholes.{bad-first, room-left, put_first, never-full, fills, listed-bad, listed-over, over}
use Rattle.listing.proofs.pieces.list.Goals as goal

pub finish-requires : goal.finish-requires
finish-requires c =
    let d = c.drain-d in
    let text = d.new.text in
    omega (arith, (room-left _ d.result d.new.ram d.new.out _ text c.in-More.is d.ensures.0).1, length-take-le d.result.used text d.ensures.3)

pub returns-in-Bad : goal.returns-in-Bad
returns-in-Bad c =
    let d = c.drain-d in
    let log = c.args.log.now in
    let n = c.«none».ensures in
    let stop = c.in-Bad.is in (
      put_first (listed-bad _ n log d.result d.new.ram d.new.out d.new.text d.ensures.0 stop) d.ensures.3 d.ensures.4,
      never-full _ n log d.result d.new.ram d.new.out d.new.text d.ensures.0 (bad-first stop) _ refl,
    )

pub returns-in-Full : goal.returns-in-Full
returns-in-Full c =
    let d = c.drain-d in
    let log = c.args.log.now in
    let n = c.«none».ensures in
    let stop = c.in-Full.is in
    (fills _ n log d.result d.new.ram d.new.out d.new.text d.ensures.0 stop _ d.ensures.3 d.ensures.4, listed-over _ n log d.result d.new.ram d.new.out d.new.text d.ensures.0 stop d.ensures.3)

pub returns-in-More : goal.returns-in-More
returns-in-More c =
    let d = c.drain-d in
    let f = c.finish.ensures in
    over _ c.«none».ensures c.args.log.now d.result d.new.ram d.new.out d.new.text d.ensures.0 c.in-More.is d.ensures.4 d.ensures.3 (omega (arith, f.1, f.0.long)) (handed f.0 (search rules))

-- `exos_list::turn` meets its contract.
use Rattle.std.proofs.Common.{◌≡◌, length, arith}
use Rattle.listing.proofs.Wholes.{room-left}
use Rattle.exos_list.proofs.Hands.{left-short}
use Rattle.exos_list.proofs.Branches.{on-unwritten, on-bad, on-full, on-more, held}
use Rattle.exos_list.specs.declared.Course.TheVariants.{Going}
use Rattle.exos_list.proofs.turn.Goals as goal

pub returns-in-Err : goal.returns-in-Err
returns-in-Err c =
    let a = c.args in
    let d = c.drain-d in
    rw c.failure_of.ensures (
      on-unwritten a.s a.ram.now a.out.now a.buf.now d.result d.new.ram d.new.out d.new.text d.ensures.0 d.ensures.3 c.in-Err.why,
      held a.s a.buf.now 69634 d.result (omega arith) d.ensures.1 c.requires d.ensures.2,
    )

pub fetch-requires : goal.fetch-requires
fetch-requires c =
    let a = c.args in
    let d = c.drain-d in
    let e : length a.buf.now ≡ 69634 = omega arith in
    let h = held a.s a.buf.now 69634 d.result e d.ensures.1 c.requires d.ensures.2 {course = a.s.course} in
    let short = left-short a.buf.now a.s.from a.s.filled d.result.taken c.requires.order (omega (arith, c.requires.filled)) (room-left _ d.result _ _ _ _ c.in-More.is d.ensures.0).0 in
    (h, omega (arith, short))

pub returns-in-More : goal.returns-in-More
returns-in-More c =
    let a = c.args in
    let d = c.drain-d in
    let f = c.fetch in
    let e : length a.buf.now ≡ 69634 = omega arith in
    let h = held a.s a.buf.now 69634 d.result e d.ensures.1 c.requires d.ensures.2 {course = a.s.course} in (
      on-more a.s a.ram.now a.out.now a.buf.now d.result d.new.ram d.new.out d.new.text d.ensures.0 d.ensures.3 c.requires.order (omega (arith, c.requires.filled)) h.order
          c.in-More.is f.result _ _ f.ensures.1 f.ensures.0.1,
      f.ensures.2,
    )

pub returns-in-Full : goal.returns-in-Full
returns-in-Full c =
    let a = c.args in
    let d = c.drain-d in
    let h = held a.s a.buf.now 69634 d.result (omega arith) d.ensures.1 c.requires d.ensures.2 {course = Going} in
    (on-full a.s a.ram.now a.out.now a.buf.now d.result d.new.ram d.new.out d.new.text d.ensures.0 d.ensures.3 c.requires.order (omega (arith, c.requires.filled)) h.order c.in-Full.is, h)

pub returns-in-Bad : goal.returns-in-Bad
returns-in-Bad c =
    let a = c.args in
    let d = c.drain-d in (
      on-bad a.s a.ram.now a.out.now a.buf.now d.result d.new.ram d.new.out d.new.text d.ensures.0 d.ensures.3 c.in-Bad.is,
      held a.s a.buf.now 69634 d.result (omega arith) d.ensures.1 c.requires d.ensures.2,
    )

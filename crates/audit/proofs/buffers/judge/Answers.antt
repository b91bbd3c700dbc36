use Rattle.std.proofs.Common.{arith, length-drop}
use Rattle.events.proofs.Walks.{record_fits, body_taken, rest_taken, all_left, rest_left}
use Rattle.audit.specs.Definition.Log.{stay}
use Rattle.audit.proofs.Walked.{at-bad, at-wrong, at_right, said, passed}
use Rattle.audit.proofs.buffers.judge.Goals as goal
use Rattle.audit.proofs.buffers.judge.Goals.{in-Err-Cut, in-Err-Bad, in-Ok+in-Err}

pub loop-r-init : goal.loop-r-init
loop-r-init c = record { walks = stay; carried = c.requires.0; left = all_left _; counted = omega arith }

pub loop-r-preserved : goal.loop-r-preserved
loop-r-preserved c =
    let i = c.loop-r.invariant in
    let left = c.loop-r.left.now in
    let r = c.in-Ok.r in
    let s = c.record-after in record {
      walks = rw (rest_taken left r) (at_right _ _ _ left i.walks r c.in-Ok.ensures _ (passed s.result _ _ c.in_default.is (rw (body_taken left r) at s.ensures.0)));
      carried = s.ensures.1;
      left = rw (rest_taken left r) (rest_left r i.left c.in-Ok.ensures);
      counted = rw (rest_taken left r, length-drop) (omega (arith, i.counted, record_fits left r c.in-Ok.ensures));
    }

pub returns : goal.returns
returns c =
    let i = c.loop-r.invariant in
    let left = c.loop-r.left.now in
    elim c.match-front.branch [
      | in-Err-Cut w ↦ rw (w.stop-is, w.ram-is, w.out-is, w.tables-is, w.due-is, i.left.is) ((i.walks, cc), i.carried, omega arith, omega (arith, i.left.short))
      | in-Err-Bad w ↦ rw (w.stop-is, w.tables-is) (at-bad _ _ _ left i.walks (cc) _ w.lacking.ensures, i.carried, omega arith, omega (arith, i.left.short))
      | in-Ok+in-Err w ↦
          let s = w.record-after in
          let r = w.in-Ok.r in
          rw (w.stop-is, w.tables-is) (at-wrong _ _ _ left i.walks r w.in-Ok.ensures _ (said s.result _ _ w.in-Err.is (rw (body_taken left r) at s.ensures.0)), s.ensures.1, omega arith, omega (arith, i.left.short))
    ]

-- `Tables::free_good` meets its contract.
use Rattle.kernel.proofs.Allocating.{free_caller, free_absent, free_own, free_shared, free_system, free_device}
use Rattle.kernel.proofs.Refusing.{quietly}
use Rattle.kernel.proofs.Tables.free_good.Goals as goal
use Rattle.kernel.proofs.Tables.free_good.Goals.{else-caller-eq0-via-then-caller-eq0+else-class-eq-SHARED, else-caller-eq0-via-else-caller-eq0}

pub returns-then-caller-gt1 : goal.returns-then-caller-gt1
returns-then-caller-gt1 c = quietly c.args.self _ _ _ _ c.refuse.ensures (free_caller _ _ _ c.if-caller-gt1.true)

pub returns-in_default : goal.returns-in_default
returns-in_default c = quietly c.args.self _ _ _ _ c.refuse-in_default.ensures (free_absent _ _ _ c.if-caller-gt1.false c.in_default.ensures)

pub returns-then-class-class_for : goal.returns-then-class-class_for
returns-then-class-class_for c =
    quietly c.args.self _ _ _ _ c.done.ensures (free_own _ _ _ c.if-caller-gt1.false _ c.in-Some.ensures _ c.class_for.ensures c.if-class-class_for.true)

pub returns-then-class-eq-SHARED : goal.returns-then-class-eq-SHARED
returns-then-class-eq-SHARED c =
    quietly c.args.self _ _ _ _ c.done-then-class-eq-SHARED.ensures
    (free_shared _ _ _ c.if-caller-gt1.false _ c.in-Some.ensures c.if-caller-eq0.true c.if-class-eq-SHARED.true)

pub returns : goal.returns
returns c =
    elim c.else-caller-eq0.branch [
      | else-caller-eq0-via-then-caller-eq0+else-class-eq-SHARED w ↦
          quietly c.args.self _ _ _ _ c.refuse-2.ensures
          (free_system _ _ _ c.if-caller-gt1.false _ c.in-Some.ensures _ c.class_for.ensures c.if-class-class_for.false w.if-class-eq-SHARED.false)
      | else-caller-eq0-via-else-caller-eq0 w ↦
          quietly c.args.self _ _ _ _ c.refuse-2.ensures
          (free_device _ _ _ c.if-caller-gt1.false _ c.in-Some.ensures _ c.class_for.ensures c.if-class-class_for.false w.if-caller-eq0.false)
    ]

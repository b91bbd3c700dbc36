-- `Tables::allocate_good` meets its contract.
use Rattle.std.proofs.Common.{refl}
use Rattle.kernel.proofs.Allocating.{allocate_caller, allocate_free, allocate_device, allocate_shared, allocate_edge, allocate_share}
use Rattle.kernel.proofs.Refusing.{quietly}
use Rattle.kernel.proofs.Tables.allocate_good.Goals as goal
use Rattle.kernel.proofs.Tables.allocate_good.Goals.{then-caller-eq1-via-then-caller-eq1, then-caller-eq1-via-else-caller-eq1+then-shares}

pub returns-then-caller-gt1 : goal.returns-then-caller-gt1
returns-then-caller-gt1 c = quietly c.args.self _ _ _ _ c.refuse.ensures (allocate_caller _ _ c.if-caller-gt1.true)

pub returns-in-Some : goal.returns-in-Some
returns-in-Some c = quietly c.args.self _ _ _ _ c.done.ensures (allocate_free _ _ c.if-caller-gt1.false _ _ c.in-Some.ensures c.class_for.ensures)

pub returns-then-caller-eq1 : goal.returns-then-caller-eq1
returns-then-caller-eq1 c =
    elim c.then-caller-eq1.branch [
      | then-caller-eq1-via-then-caller-eq1 w ↦
          quietly c.args.self _ _ _ _ c.refuse-then-caller-eq1.ensures (allocate_device _ _ c.if-caller-gt1.false c.in_default.ensures w.if-caller-eq1.true)
      | then-caller-eq1-via-else-caller-eq1+then-shares w ↦
          quietly c.args.self _ _ _ _ c.refuse-then-caller-eq1.ensures
          (allocate_shared _ _ c.if-caller-gt1.false c.in_default.ensures w.if-caller-eq1.false w.if-shares.ensures)
    ]

pub returns-then-edge-eq0 : goal.returns-then-edge-eq0
returns-then-edge-eq0 c =
    quietly c.args.self _ _ _ _ c.refuse-then-edge-eq0.ensures
    (allocate_edge _ _ c.if-caller-gt1.false c.in_default.ensures c.if-caller-eq1.false c.if-shares.ensures _ c.exos_boundary-edge.ensures c.if-edge-eq0.true)

pub returns : goal.returns
returns c =
    quietly c.args.self _ _ _ _ refl
    (allocate_share _ _ c.if-caller-gt1.false c.in_default.ensures c.if-caller-eq1.false c.if-shares.ensures _ c.exos_boundary-edge.ensures c.if-edge-eq0.false _ c.last_row-last.ensures.0)

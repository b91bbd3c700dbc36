-- `Tables::set_user_boundary_good` meets its contract.
use Rattle.kernel.proofs.Allocating.{bound_none, bound_above, bound_done}
use Rattle.kernel.proofs.Refusing.{quietly}
use Rattle.kernel.proofs.Tables.set_user_boundary_good.Goals as goal
use Rattle.kernel.proofs.Tables.set_user_boundary_good.Goals.{then-not-shares-via-then-not-shares, then-not-shares-via-else-not-shares+then-exos_boundary-value}

pub returns-then-not-shares : goal.returns-then-not-shares
returns-then-not-shares c =
    elim c.then-not-shares.branch [
      | then-not-shares-via-then-not-shares w ↦ quietly c.args.self _ _ _ _ c.refuse.ensures (bound_none _ _ w.if-not-shares.ensures)
      | then-not-shares-via-else-not-shares+then-exos_boundary-value w ↦
          quietly c.args.self _ _ _ _ c.refuse.ensures (bound_above _ _ _ w.if-not-shares.ensures w.exos_boundary.ensures w.if-exos_boundary-value.true)
    ]

pub returns : goal.returns
returns c = quietly c.args.self _ _ _ _ c.done.ensures (bound_done _ _ _ c.if-not-shares.ensures c.exos_boundary.ensures c.if-exos_boundary-value.false)

-- `Tables::boundary_good` meets its contract.
use Rattle.kernel.proofs.Allocating.{boundary_done}
use Rattle.kernel.proofs.Refusing.{quietly}
use Rattle.kernel.proofs.Tables.boundary_good.Goals as goal

pub returns : goal.returns
returns c = quietly c.args.self _ _ _ _ c.done.ensures (boundary_done _ _ _ c.last_row.ensures.0 c.exos_boundary-edge.ensures)

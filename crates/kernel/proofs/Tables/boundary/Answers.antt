-- `Tables::boundary` meets its contract.
use Rattle.std.proofs.Common.{refl}
use Rattle.kernel.specs.Definition.Calls.{boundary}
use Rattle.kernel.specs.Definition.Step.{heard}
use Rattle.kernel.proofs.Calls.{call_refused, call_done}
use Rattle.kernel.proofs.Tables.boundary.Goals as goal

pub returns-then-not-is_ready : goal.returns-then-not-is_ready
returns-then-not-is_ready c = λ out. call_refused _ _ (boundary) out _ c.if-not-is_ready.ensures.0 refl c.refuse.ensures

pub returns : goal.returns
unfolding heard
returns c = λ out. call_done _ _ (boundary) out _ c.if-not-is_ready.ensures.0 _ out (c.boundary_good.ensures _ out)

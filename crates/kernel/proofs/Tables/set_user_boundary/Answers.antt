-- `Tables::set_user_boundary` meets its contract.
use Rattle.std.proofs.Common.{refl}
use Rattle.kernel.specs.Definition.Calls.{set-user-boundary}
use Rattle.kernel.specs.Definition.Step.{heard}
use Rattle.kernel.proofs.Calls.{call_refused, call_done}
use Rattle.kernel.proofs.Tables.set_user_boundary.Goals as goal

pub returns-then-not-is_ready : goal.returns-then-not-is_ready
returns-then-not-is_ready c = λ out. call_refused _ _ (set-user-boundary _) out _ c.if-not-is_ready.ensures.0 refl c.refuse.ensures

pub returns : goal.returns
unfolding heard
returns c = λ out. call_done _ _ (set-user-boundary _) out _ c.if-not-is_ready.ensures.0 _ out (c.set_user_boundary_good.ensures _ out)

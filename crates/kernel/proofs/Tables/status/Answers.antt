-- `Tables::status` meets its contract.
use Rattle.std.proofs.Common.{refl}
use Rattle.kernel.specs.Definition.Calls.{status}
use Rattle.kernel.specs.Definition.Step.{heard}
use Rattle.kernel.proofs.Calls.{call_refused, call_done}
use Rattle.kernel.proofs.Tables.status.Goals as goal

pub returns-then-not-is_ready : goal.returns-then-not-is_ready
returns-then-not-is_ready c = call_refused _ _ status _ _ c.if-not-is_ready.ensures.0 refl c.refuse.ensures

pub returns : goal.returns
unfolding heard
returns c = call_done _ _ status _ _ c.if-not-is_ready.ensures.0 _ _ (c.status_good.ensures _)

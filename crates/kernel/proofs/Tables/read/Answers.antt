-- `Tables::read` meets its contract.
use Rattle.std.proofs.Common.{refl}
use Rattle.kernel.specs.Definition.Calls.{read}
use Rattle.kernel.specs.Definition.Step.{heard}
use Rattle.kernel.proofs.Calls.{call_refused, call_done}
use Rattle.kernel.proofs.Tables.read.Goals as goal

pub returns-then-not-is_ready : goal.returns-then-not-is_ready
returns-then-not-is_ready c = call_refused _ _ (read _ _ _) _ _ c.if-not-is_ready.ensures.0 refl c.refuse.ensures

pub returns : goal.returns
unfolding heard
returns c = call_done _ _ (read _ _ _) _ _ c.if-not-is_ready.ensures.0 _ _ c.read_good.ensures

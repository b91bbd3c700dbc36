-- `Tables::store` meets its contract.
use Rattle.std.proofs.Common.{refl}
use Rattle.kernel.specs.Definition.Calls.{store}
use Rattle.kernel.specs.Definition.Step.{heard}
use Rattle.kernel.proofs.Calls.{call_refused, call_done}
use Rattle.kernel.proofs.Tables.store.Goals as goal

pub returns-then-not-is_ready : goal.returns-then-not-is_ready
returns-then-not-is_ready c = λ out. call_refused _ _ (store _ _ _) out _ c.if-not-is_ready.ensures.0 refl c.refuse.ensures

pub returns : goal.returns
unfolding heard
returns c = λ out. call_done _ _ (store _ _ _) out _ c.if-not-is_ready.ensures.0 _ _ (c.store_good.ensures out)

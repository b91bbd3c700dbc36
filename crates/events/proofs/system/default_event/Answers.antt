-- `events::system::default_event` meets its contract.
use Rattle.kernel.specs.Definition.Calls.{default}
use Rattle.kernel.specs.Definition.Step.{heard}
use Rattle.events.proofs.Laws.{done}
use Rattle.events.proofs.Taken.{default-taken}
use Rattle.events.proofs.system.default_event.Goals as goal

pub returns : goal.returns
unfolding heard
returns c = λ ram out s. done _ ram out c.requires s (default _ _) _ _ ram out (default-taken _ c.in-len1-up.len_at_least) (c.default_good.ensures ram out)

-- `events::segments::status_event` meets its contract.
use Rattle.std.proofs.Common.{rules}
use Rattle.kernel.specs.Definition.Calls.{status}
use Rattle.kernel.specs.Definition.Step.{heard}
use Rattle.events.proofs.Laws.{done}
use Rattle.events.proofs.Taken.{status-taken}
use Rattle.events.proofs.segments.status_event.Goals as goal

pub returns : goal.returns
unfolding heard
returns c = λ ram s. done _ ram _ c.requires s status _ _ _ _ (status-taken _ (search rules)) (c.status_good.ensures ram)

-- `events::segments::boundary_event` meets its contract.
use Rattle.std.proofs.Common.{rules}
use Rattle.kernel.specs.Definition.Calls.{boundary}
use Rattle.kernel.specs.Definition.Step.{heard}
use Rattle.events.proofs.Laws.{done}
use Rattle.events.proofs.Taken.{boundary-taken}
use Rattle.events.proofs.segments.boundary_event.Goals as goal

pub returns : goal.returns
unfolding heard
returns c = λ ram out s. done _ ram out c.requires s boundary _ _ ram out (boundary-taken _ (search rules)) (c.boundary_good.ensures ram out)

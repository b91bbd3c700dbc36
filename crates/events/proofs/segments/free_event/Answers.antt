-- `events::segments::free_event` meets its contract.
use Rattle.std.proofs.Common.{arith}
use Rattle.kernel.specs.Definition.Calls.{free}
use Rattle.kernel.specs.Definition.Step.{heard}
use Rattle.events.proofs.Laws.{done}
use Rattle.events.proofs.Taken.{free-taken}
use Rattle.events.proofs.segments.free_event.Goals as goal

pub returns : goal.returns
unfolding heard
returns c = λ ram out s. done _ ram out c.requires s (free _ _) _ _ ram out (free-taken _ (omega (arith, c.in-len2.len_at_least, c.in-len2.len_below))) (c.free_good.ensures ram out)

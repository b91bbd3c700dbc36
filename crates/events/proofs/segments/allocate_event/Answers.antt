-- `events::segments::allocate_event` meets its contract.
use Rattle.std.proofs.Common.{arith}
use Rattle.kernel.specs.Definition.Calls.{allocate}
use Rattle.kernel.specs.Definition.Step.{heard}
use Rattle.events.proofs.Laws.{done}
use Rattle.events.proofs.Taken.{allocate-taken}
use Rattle.events.proofs.segments.allocate_event.Goals as goal

pub returns : goal.returns
unfolding heard
returns c = λ ram out s. done _ ram out c.requires s (allocate _) _ _ ram out (allocate-taken _ (omega (arith, c.in-len1.len_at_least, c.in-len1.len_below))) (c.allocate_good.ensures ram out)

-- `events::channels::close_event` meets its contract.
use Rattle.std.proofs.Common.{arith}
use Rattle.kernel.specs.Definition.Calls.{close}
use Rattle.kernel.specs.Definition.Step.{heard}
use Rattle.events.proofs.Laws.{done}
use Rattle.events.proofs.Taken.{close-taken}
use Rattle.events.proofs.channels.close_event.Goals as goal

pub returns : goal.returns
unfolding heard
returns c = λ out. done _ _ out c.requires.0 c.requires.1 (close _) _ _ _ _ (close-taken _ (omega (arith, c.in-len1.len_at_least, c.in-len1.len_below))) (c.close_good.ensures out)

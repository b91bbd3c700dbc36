-- `events::system::reset_event` meets its contract.
use Rattle.std.proofs.Common.{arith}
use Rattle.kernel.specs.Definition.Calls.{reset}
use Rattle.kernel.specs.Definition.Step.{heard}
use Rattle.events.proofs.Laws.{done}
use Rattle.events.proofs.Taken.{reset-taken}
use Rattle.events.proofs.system.reset_event.Goals as goal

pub returns : goal.returns
unfolding heard
returns c = λ out. done _ _ out c.requires.0 c.requires.1 (reset _) _ _ _ _ (reset-taken _ (omega (arith, c.in-len1.len_at_least, c.in-len1.len_below))) (c.reset_good.ensures out)

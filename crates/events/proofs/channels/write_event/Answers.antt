-- `events::channels::write_event` meets its contract.
use Rattle.std.proofs.Common.{◌∙◌}
use Rattle.kernel.specs.Definition.Calls.{write}
use Rattle.kernel.specs.Definition.Step.{heard}
use Rattle.events.proofs.Laws.{done, le16}
use Rattle.events.proofs.Taken.{write-taken}
use Rattle.events.proofs.channels.write_event.Goals as goal

pub returns : goal.returns
unfolding heard
returns c = λ out. done _ _ out c.requires.0 c.requires.1 (write _ _ _) _ _ _ _ (write-taken _ _ c.in-len3-up.len_at_least (c.from_le_bytes-offset.ensures ∙ le16 _ _)) (c.write_good.ensures out)

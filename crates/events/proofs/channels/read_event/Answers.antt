-- `events::channels::read_event` meets its contract.
use Rattle.std.proofs.Common.{arith, ◌∙◌}
use Rattle.kernel.specs.Definition.Calls.{read}
use Rattle.kernel.specs.Definition.Step.{heard}
use Rattle.events.proofs.Laws.{done, le16}
use Rattle.events.proofs.Taken.{read_taken}
use Rattle.events.proofs.channels.read_event.Goals as goal

pub returns : goal.returns
unfolding heard
returns c = done _ _ _ c.requires.0 c.requires.1 (read _ _ _) _ _ _ _ (read_taken _ _ _ (omega (arith, c.in-len5.len_at_least, c.in-len5.len_below)) (c.from_le_bytes-offset.ensures ∙ le16 _ _) (c.from_le_bytes-asked.ensures ∙ le16 _ _)) c.read_good.ensures

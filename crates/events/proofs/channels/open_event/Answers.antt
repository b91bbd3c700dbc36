-- `events::channels::open_event` meets its contract.
use Rattle.std.proofs.Common.{◌∙◌}
use Rattle.kernel.specs.Definition.Calls.{«open»}
use Rattle.kernel.specs.Definition.Step.{heard}
use Rattle.events.proofs.Laws.{done, le16}
use Rattle.events.proofs.Taken.{open-taken}
use Rattle.events.proofs.channels.open_event.Goals as goal

pub returns : goal.returns
unfolding heard
returns c = λ out. done _ _ out c.requires.0 c.requires.1 («open» _ _ _ _) _ _ _ _ (open-taken _ _ c.in-len4-up.len_at_least (c.from_le_bytes-n.ensures ∙ le16 _ _)) (c.open_good.ensures out)

-- `events::system::link_event` meets its contract.
use Rattle.std.proofs.Common.{◌∙◌}
use Rattle.kernel.specs.Definition.Calls.{link}
use Rattle.kernel.specs.Definition.Step.{heard}
use Rattle.events.proofs.Laws.{done, le16}
use Rattle.events.proofs.Taken.{link-taken}
use Rattle.events.proofs.system.link_event.Goals as goal

pub returns : goal.returns
unfolding heard
returns c = λ out. done _ _ out c.requires.0 c.requires.1 (link _ _) _ _ _ _ (link-taken _ _ c.in-len2-up.len_at_least (c.from_le_bytes-m.ensures ∙ le16 _ _)) (c.link_good.ensures out)

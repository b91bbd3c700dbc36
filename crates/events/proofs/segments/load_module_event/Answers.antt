-- `events::segments::load_module_event` meets its contract.
use Rattle.std.proofs.Common.{◌∙◌}
use Rattle.kernel.specs.Definition.Calls.{load-module}
use Rattle.kernel.specs.Definition.Step.{heard}
use Rattle.events.proofs.Laws.{done, le16}
use Rattle.events.proofs.Taken.{load-module-taken}
use Rattle.events.proofs.segments.load_module_event.Goals as goal

pub returns : goal.returns
unfolding heard
returns c = λ out. done _ _ out c.requires.0 c.requires.1 (load-module _ _ _ _) _ _ _ _ (load-module-taken _ _ c.in-len4-up.len_at_least (c.from_le_bytes-offset.ensures ∙ le16 _ _)) (c.load_module_good.ensures out)

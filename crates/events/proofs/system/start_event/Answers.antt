-- `events::system::start_event` meets its contract.
use Rattle.std.proofs.Common.{◌∙◌}
use Rattle.kernel.specs.Definition.Calls.{start}
use Rattle.events.proofs.Laws.{start-done, le16}
use Rattle.events.proofs.Taken.{start-taken}
use Rattle.events.proofs.system.start_event.Goals as goal

pub returns : goal.returns
returns c = λ out. start-done _ _ _ out (start _ _) _ (start-taken _ _ c.in-len2-up.len_at_least (c.from_le_bytes-room.ensures ∙ le16 _ _)) (c.start.ensures out)

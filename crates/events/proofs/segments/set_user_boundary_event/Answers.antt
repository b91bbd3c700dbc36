-- `events::segments::set_user_boundary_event` meets its contract.
use Rattle.std.proofs.Common.{arith, ◌∙◌}
use Rattle.kernel.specs.Definition.Calls.{set-user-boundary}
use Rattle.kernel.specs.Definition.Step.{heard}
use Rattle.events.proofs.Laws.{done, le16}
use Rattle.events.proofs.Taken.{set-user-boundary-taken}
use Rattle.events.proofs.segments.set_user_boundary_event.Goals as goal

pub returns : goal.returns
unfolding heard
returns c = λ ram out s. done _ ram out c.requires s (set-user-boundary _) _ _ ram out (set-user-boundary-taken _ _ (omega (arith, c.in-len2.len_at_least, c.in-len2.len_below)) (c.from_le_bytes-value.ensures ∙ le16 _ _)) (c.set_user_boundary_good.ensures ram out)

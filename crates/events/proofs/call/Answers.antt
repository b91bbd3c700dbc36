-- `events::call` meets its contract.
use Rattle.std.proofs.Common.{sym, refl}
use Rattle.events.specs.declared.kinds.Kind.TheVariants.{Start}
use Rattle.events.proofs.ByKind.{by_kind, bad_tables}
use Rattle.events.proofs.call.Goals as goal

pub returns-then-kind-eq256 : goal.returns-then-kind-eq256
returns-then-kind-eq256 c = by_kind _ _ _ _ _ Start _ (sym c.if-kind-eq256.true) refl (c.start_event.ensures _)

pub returns-then-not-is_ready : goal.returns-then-not-is_ready
returns-then-not-is_ready c = bad_tables _ _ _ _ _ c.if-not-is_ready.ensures.0 c.if-kind-eq256.false _ c.refuse.ensures

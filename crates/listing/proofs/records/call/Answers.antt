-- `listing::call` meets its contract.
use Rattle.std.proofs.Common.{refl, sym, ◌∙◌}
use Rattle.events.specs.declared.kinds.Kind.TheVariants.{Start}
use Rattle.events.proofs.ByKind.{by_kind}
use Rattle.listing.specs.Laws.NoneOrGood.{is_none, is-good, lent-theirs}
use Rattle.listing.proofs.Calls.{unstarted}
use Rattle.listing.proofs.records.call.Goals as goal

pub returns-then-kind-eq256 : goal.returns-then-kind-eq256
returns-then-kind-eq256 c = by_kind _ _ _ _ _ Start _ (sym c.if-kind-eq256.true) refl (c.start_event.ensures _)

pub returns-then-t-eq0 : goal.returns-then-t-eq0
returns-then-t-eq0 c = unstarted _ _ _ _ _ _ (is_none _ c.requires.0 c.if-t-eq0.true) c.if-kind-eq256.false c.refuse.ensures

pub call_good-requires : goal.call_good-requires
call_good-requires c = let g = is-good _ c.requires.0 c.if-t-eq0.false in (g.0, c.requires.1 ∙ lent-theirs c.args.t _ _ c.if-kind-eq256.false g.1)

-- `pages::refuses_from` meets its contract. The invariant: the list is refused where the rest of it is.
use Rattle.std.proofs.Common.{◌≡◌}
use Rattle.std.specs.Slice.Iter.{chunks_exact_rest, chunks_exact_size}
use Rattle.modules.specs.Definition.Counter.{Counts}
use Rattle.writer.specs.Definition.Writing.{refuses_from}
use Rattle.writer.specs.Within.Entries.{items_of}
use Rattle.writer.proofs.pages.refuses_from.Given as goal

abbrev pub invariant-loop-entry : goal.invariant-loop-entry
invariant-loop-entry l =
    (goal.iterator-loop-entry).can_next l.entry-iterator × (goal.iterator-loop-entry).is_finite l.entry-iterator × (chunks_exact_size l.entry-iterator ≡ 3) × Counts l.c
    × (refuses_from l.start.page l.start (items_of l.items) ≡ refuses_from l.start.page l.c (items_of (chunks_exact_rest l.entry-iterator)))

-- `sizes::size_of` meets its contract. The invariant: the bits counted and those of the rest are all; an item has at most 7 for each of its bytes.
use Rattle.std.proofs.Common.{◌≡◌, ◌+◌, ◌*◌, ◌≤◌, ◌<◌, length}
use Rattle.std.specs.Slice.Iter.{chunks_exact_rest, chunks_exact_size}
use Rattle.modules.specs.Definition.Items.{all_bits}
use Rattle.writer.specs.Within.Entries.{items_of}
use Rattle.writer.proofs.sizes.size_of.Given as goal

abbrev pub invariant-loop-entry : goal.invariant-loop-entry
invariant-loop-entry l =
    (goal.iterator-loop-entry).can_next l.entry-iterator × (goal.iterator-loop-entry).is_finite l.entry-iterator × (chunks_exact_size l.entry-iterator ≡ 3)
    × (l.over < 8) × (8 * l.whole + l.over + 7 * length (chunks_exact_rest l.entry-iterator) ≤ 7 * length l.items)
    × (8 * l.whole + l.over + length (all_bits (items_of (chunks_exact_rest l.entry-iterator))) ≡ length (all_bits (items_of l.items)))

-- `put_list` puts an item a turn. The invariant: bits are put, and with those of the rest of the list they are all.
use Rattle.std.proofs.Common.{◌≡◌, List, ◌++◌}
use Rattle.std.specs.Slice.Iter.{chunks_exact_rest, chunks_exact_size}
use Rattle.modules.specs.Definition.Bits.{Bit}
use Rattle.modules.specs.Definition.Items.{all_bits}
use Rattle.writer.specs.Within.Entries.{items_of}
use Rattle.writer.specs.Within.Packing.{Adds}
use Rattle.writer.proofs.packing.Sheet.put_list.Given as goal

abbrev pub invariant-loop-entry : goal.invariant-loop-entry
invariant-loop-entry l =
    (goal.iterator-loop-entry).can_next l.entry-iterator × (goal.iterator-loop-entry).is_finite l.entry-iterator × (chunks_exact_size l.entry-iterator ≡ 3)
    × ((bits : List Bit) × Adds l.initial.self l.self bits × (bits ++ all_bits (items_of (chunks_exact_rest l.entry-iterator)) ≡ all_bits (items_of l.items)))

-- `entries::list_in` meets its contract. The invariant: what is found is what is found behind the items passed.
use Rattle.std.proofs.Common.{◌≡◌}
use Rattle.std.specs.Iterator.Adapters.{enumerate_source, enumerate_count}
use Rattle.std.specs.Slice.Iter.{chunks_rest, chunks_size}
use Rattle.writer.specs.Definition.Entries.{listed}
use Rattle.writer.specs.Within.Entries.{found_in}
use Rattle.writer.specs.Laws.Entries.{behind}
use Rattle.writer.proofs.entries.list_in.Given as goal

abbrev pub invariant-loop-i : goal.invariant-loop-i
invariant-loop-i l =
    let chunks = enumerate_source l.i-iterator in
    (goal.iterator-loop-i).can_next l.i-iterator × (goal.iterator-loop-i).is_finite l.i-iterator × (chunks_size chunks ≡ 3)
    × (found_in (listed l.bytes) ≡ behind (enumerate_count l.i-iterator) (found_in (listed (chunks_rest chunks))))

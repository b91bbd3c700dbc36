-- The list finds room with what is left over, and the bits behind it.
use Rattle.std.proofs.Common.{arith}
use Rattle.modules.specs.Definition.Items.{item_bits}
use Rattle.writer.specs.Within.Entries.{items_and_left_over}
use Rattle.writer.specs.Laws.Packing.{bits-left}
use Rattle.exos_module.proofs.tests.puts_what_is_left_over.Goals as goal

pub put_items-requires : goal.put_items-requires
unfolding items_and_left_over item_bits
put_items-requires g c = ((omega arith, omega arith), omega arith)

pub put_bits-requires : goal.put_bits-requires
unfolding items_and_left_over item_bits
put_bits-requires g c =
    let m = c.put_items.ensures in
    ((m.few, m.low), omega arith, omega arith, bits-left m 10 (omega arith))

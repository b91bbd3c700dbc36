-- The list finds room, and the bits behind it.
use Rattle.std.proofs.Common.{arith}
use Rattle.modules.specs.Definition.Items.{item_bits}
use Rattle.writer.specs.Within.Entries.{items_of}
use Rattle.writer.specs.Laws.Packing.{bits-left}
use Rattle.exos_module.proofs.tests.puts_a_list.Goals as goal

pub put_list-requires : goal.put_list-requires
unfolding items_of item_bits
put_list-requires g c = ((omega arith, omega arith), omega arith)

pub put_bits-requires : goal.put_bits-requires
unfolding items_of item_bits
put_bits-requires g c =
    let m = c.put_list.ensures in
    ((m.few, m.low), omega arith, omega arith, bits-left m 7 (omega arith))

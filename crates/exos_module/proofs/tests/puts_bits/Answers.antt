-- The second bits find room behind the first.
use Rattle.std.proofs.Common.{arith}
use Rattle.modules.specs.Definition.Bits.{bits_of}
use Rattle.writer.specs.Laws.Packing.{bits-left}
use Rattle.exos_module.proofs.tests.puts_bits.Goals as goal

pub put_bits-requires-2 : goal.put_bits-requires-2
unfolding bits_of
put_bits-requires-2 g c =
    let m = c.put_bits.ensures in
    ((m.few, m.low), omega arith, omega arith, bits-left m 5 (omega arith))

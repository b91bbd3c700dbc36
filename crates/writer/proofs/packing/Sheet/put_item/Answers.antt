-- `put_item` puts an item's code in its width.
use Rattle.std.proofs.Common.{arith}
use Rattle.writer.specs.Laws.Numbers.{item-width, code_fits}
use Rattle.writer.specs.Laws.Packing.{adds-item}
use Rattle.writer.proofs.packing.Sheet.put_item.Goals as goal

pub put_bits-requires : goal.put_bits-requires
put_bits-requires c =
    let w = c.width_of.ensures in
    let k = c.code_of.ensures in
    let i = c.args.item in
    (c.requires.0, w.1, rw (k, w.0) (code_fits i), omega (arith, item-width i, w.0, c.requires.1))

pub returns : goal.returns
returns c =
    adds-item c.args.item _ _ c.code_of.ensures c.width_of.ensures.0 c.put_bits.ensures

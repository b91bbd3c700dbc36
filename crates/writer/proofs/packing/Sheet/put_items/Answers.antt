-- `put_items` puts the list, and a restore where bytes are left over.
use Rattle.std.proofs.Common.{ap, length, length-append, arith}
use Rattle.modules.specs.Definition.Items.{item_bits, all_bits}
use Rattle.modules.specs.declared.Item.TheVariants.{Restore}
use Rattle.writer.specs.Within.Entries.{items_of}
use Rattle.writer.specs.Laws.Sizes.{no-fewer, none-over, some-over}
use Rattle.writer.specs.Laws.Packing.{adds_then, adds-as, bits-left}
use Rattle.writer.proofs.packing.Sheet.put_items.Goals as goal

pub put_list-requires : goal.put_list-requires
put_list-requires c = (c.requires.0, omega (arith, no-fewer c.args.items.now, c.requires.1))

pub put_item-requires : goal.put_item-requires
put_item-requires c =
    let items = c.args.items.now in
    let m = c.put_list.ensures in
    ((m.few, m.low), bits-left m _ (omega (arith, ap length (some-over items c.if-items-ne0.true), length-append (all_bits (items_of items)) (item_bits Restore), c.requires.1)))

pub returns-then-items-ne0 : goal.returns-then-items-ne0
returns-then-items-ne0 c = adds-as (some-over _ c.if-items-ne0.true) (adds_then c.put_list.ensures c.put_item.ensures)

pub returns-else-items-ne0 : goal.returns-else-items-ne0
returns-else-items-ne0 c = adds-as (none-over _ c.if-items-ne0.false) c.put_list.ensures

-- `write::put_module` meets its contract: items, end item and padding one behind the other are the module.
use Rattle.std.proofs.Common.{refl, rules, arith, pow_pos, length-append}
use Rattle.modules.specs.Definition.Bits.{bits_of}
use Rattle.modules.specs.Definition.Items.{all_bits}
use Rattle.modules.specs.Laws.Numbers.{bits-length}
use Rattle.writer.specs.Within.Entries.{items_of}
use Rattle.writer.specs.Laws.Bytes.{module-size}
use Rattle.writer.specs.Laws.Packing.{adds_then, adds-size, adds-bits, bits-left, put_whole}
use Rattle.writer.proofs.write.put_module.Goals as goal

pub put_list-requires : goal.put_list-requires
put_list-requires c = ((omega arith, omega arith), omega (arith, module-size (items_of c.args.items.now), c.requires))

pub put_bits-requires : goal.put_bits-requires
put_bits-requires c =
    let m = c.put_list.ensures in
    ((m.few, m.low), omega arith, omega arith, bits-left m 3 (omega (arith, module-size (items_of c.args.items.now), c.requires)))

pub put_bits-requires-2 : goal.put_bits-requires-2
put_bits-requires-2 c =
    let m = c.put_list.ensures in
    let n = c.put_bits.ensures in
    ((n.few, n.low), omega arith, pow_pos _, bits-left (adds_then m n) _ (omega (arith, adds-size m, adds-bits 3 _ n, bits-length 3 6, length-append (all_bits (items_of c.args.items.now)) (bits_of 3 6), n.few, module-size (items_of c.args.items.now), c.requires)))

pub returns : goal.returns
returns c =
    let items = items_of c.args.items.now in
    let m = c.put_list.ensures in
    let n = c.put_bits.ensures in
    let p = c.put_bits-2.ensures in
    let two = adds_then m n in
    let all = adds_then two p in
    put_whole items _ refl (omega (arith, adds-size m, adds-bits 3 _ n, n.few)) all (omega (arith, adds-bits _ 0 p, n.few, p.few)) (search rules)

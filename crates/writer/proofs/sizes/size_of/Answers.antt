use Rattle.std.proofs.Common.{rules, arith, ◌<◌, ◌∙◌, ap, length, length-append}
use Rattle.std.specs.Slice.Iter.{chunks_exact_rest}
use Rattle.writer.specs.Within.Entries.{items_of}
use Rattle.writer.specs.Within.Codes.{width_of}
use Rattle.writer.specs.Laws.Entries.{takes}
use Rattle.writer.specs.Laws.Bytes.{module-size}
use Rattle.writer.specs.Laws.Sizes.{size-next, width-few, bits-last}
use Rattle.writer.proofs.sizes.size_of.Goals as goal

pub loop-entry-preserved : goal.loop-entry-preserved
loop-entry-preserved c =
    let (can, ends, three, over, few, all) = c.loop-entry.invariant in
    let step = c.in-Some.ensures.steps in
    let w = c.width_of.ensures in
    let i = c.item_of.ensures in
    let size = ap length step.1.0 ∙ length-append c.in-Some.entry.now _ in
    let some : 0 < length c.in-Some.entry.now = omega (arith, step.1.1, three) in
    let next = size-next (takes three step.1) _ i _ w.0 in
    let less = width-few _ _ some w.1 (w.0 ∙ ap width_of i) in
    (search rules, tt, step.0 ∙ three, omega arith, omega (arith, size, less, few), omega (arith, next, all))

pub returns : goal.returns
returns c =
    let (can, ends, three, over, few, all) = c.loop-entry.invariant in
    let items = c.args.items.now in
    let none = ap length (bits-last (chunks_exact_rest c.loop-entry.entry-iterator) (omega (arith, c.in-None.ensures.steps.1.0, three))) in
    omega (arith, none, over, all, c.div_ceil.ensures, module-size (items_of items))

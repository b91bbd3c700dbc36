use Rattle.std.proofs.Common.{rules, ◌∙◌, [], ◌++◌, arith}
use Rattle.modules.specs.Definition.Items.{item_bits}
use Rattle.writer.specs.Laws.Entries.{takes}
use Rattle.writer.specs.Laws.Sizes.{bits-more, piece-fits, bits-all}
use Rattle.writer.specs.Laws.Packing.{adds_none, adds_then, adds-as, bits-left}
use Rattle.writer.proofs.packing.Sheet.put_list.Goals as goal

pub loop-entry-init : goal.loop-entry-init
loop-entry-init c = (search rules, tt, search rules, ([], adds_none _ c.requires.0, search rules))

pub put_item-requires : goal.put_item-requires
put_item-requires c =
    let (can, ends, three, (bits, m, all)) = c.loop-entry.invariant in
    let step = c.in-Some.ensures.steps in
    let fits = piece-fits (takes three step.1) _ c.item_of.ensures bits _ all in
    ((m.few, m.low), bits-left m _ (omega (arith, fits, c.requires.1)))

pub loop-entry-preserved : goal.loop-entry-preserved
loop-entry-preserved c =
    let (can, ends, three, (bits, m, all)) = c.loop-entry.invariant in
    let step = c.in-Some.ensures.steps in (
      search rules,
      tt,
      step.0 ∙ three,
      (bits ++ item_bits c.item_of.result, adds_then m c.put_item.ensures, bits-more (takes three step.1) _ c.item_of.ensures bits _ all),
    )

pub returns : goal.returns
returns c =
    let (can, ends, three, (bits, m, all)) = c.loop-entry.invariant in
    let step = c.in-None.ensures.steps in
    adds-as (bits-all _ bits _ (omega (arith, step.1.0, three)) all) m

use Rattle.std.proofs.Common.{rules, sym, ◌∙◌, arith}
use Rattle.writer.specs.Laws.Entries.{takes}
use Rattle.writer.specs.Laws.Pages.{refuses-goes, refuses-stops, refuses-none}
use Rattle.writer.proofs.pages.refuses_from.Goals as goal

pub loop-entry-preserved : goal.loop-entry-preserved
loop-entry-preserved c =
    let (can, ends, three, counts, e) = c.loop-entry.invariant in
    let step = c.in-Some.ensures.steps in
    let act = c.act_of.ensures in (
      search rules,
      tt,
      step.0 ∙ three,
      rw c.in-Ok.is at act.counts,
      e ∙ refuses-goes (takes three step.1) _ _ _ _ c.item_of.ensures act.acts _ c.in-Ok.is,
    )

pub returns-in-Err : goal.returns-in-Err
returns-in-Err c =
    let (can, ends, three, counts, e) = c.loop-entry.invariant in
    let step = c.in-Some.ensures.steps in
    sym (e ∙ refuses-stops (takes three step.1) _ _ _ _ c.item_of.ensures c.act_of.ensures.acts _ c.in-Err.is)

pub returns : goal.returns
returns c =
    let (can, ends, three, counts, e) = c.loop-entry.invariant in
    let step = c.in-None.ensures.steps in
    sym (e ∙ refuses-none _ _ _ (omega (arith, step.1.0, three)))

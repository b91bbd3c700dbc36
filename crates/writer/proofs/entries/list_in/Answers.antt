use Rattle.std.proofs.Common.{rules, ◌∙◌, sym}
use Rattle.writer.specs.Laws.Entries.{cuts, found-item, found-no, found_all}
use Rattle.writer.proofs.entries.list_in.Goals as goal

pub loop-i-preserved : goal.loop-i-preserved
loop-i-preserved c =
    let (can, ends, three, e) = c.loop-i.invariant in
    let step = c.in-Some.ensures.steps in
    (search rules, tt, step.0.0 ∙ three, rw step.2 (found-item _ (cuts three step.0.1) e (sym c.entry_of.ensures ∙ c.in_default.is)))

pub returns-in-Err : goal.returns-in-Err
returns-in-Err c =
    let (can, ends, three, e) = c.loop-i.invariant in
    let step = c.in-Some.ensures.steps in
    rw step.1 (found-no _ (cuts three step.0.1) e (sym c.entry_of.ensures ∙ c.in-Err.is))

pub returns : goal.returns
returns c =
    let (can, ends, three, e) = c.loop-i.invariant in
    let step = c.in-None.ensures.steps in
    found_all _ _ step.0.1.0 e

-- `reader::settle` meets its contract at an end item.
use Rattle.modules.specs.Laws.Padding.{ended-whole, ended-bad}
use Rattle.modules.proofs.reader.settle.Goals as goal

pub returns-then-bits_of-eq0 : goal.returns-then-bits_of-eq0
returns-then-bits_of-eq0 c =
    let end = c.next_multiple_of-end.ensures in
    rw c.in-End.is (ended-whole _ _ _ _ _ c.requires.0 end.lower_bound end.upper_bound end.multiple c.window.ensures.0 c.bits_of.ensures.0 c.if-bits_of-eq0.true)

pub returns-else-bits_of-eq0 : goal.returns-else-bits_of-eq0
returns-else-bits_of-eq0 c =
    let end = c.next_multiple_of-end.ensures in
    rw c.in-End.is (ended-bad _ _ _ _ _ c.requires.0 end.lower_bound end.upper_bound end.multiple c.window.ensures.0 c.bits_of.ensures.0 c.if-bits_of-eq0.false)

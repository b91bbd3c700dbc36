-- `lend_good` meets its contract: an open channel's buffer lies inside the line, and nothing is lent of another.
use Rattle.kernel.proofs.Spans.{buffer_chain}
use Rattle.kernel.proofs.Accessing.{part_closed, part_open}
use Rattle.kernel.proofs.Tables.lend_good.Goals as goal

pub returns-in_default : goal.returns-in_default
returns-in_default c = part_closed _ _ _ c.in_default.ensures.found

pub lend-requires : goal.lend-requires
lend-requires c = buffer_chain _ _ _ _ c.requires.0 c.in-Some.ensures.found c.line.ensures _ c.requires.1

pub returns : goal.returns
returns c = part_open _ _ _ _ c.in-Some.ensures.found c.line.ensures _ _ c.lend.ensures

-- `lent_good` meets its contract: an open channel's buffer lies inside the line, and nothing is lent of another.
use Rattle.kernel.proofs.Spans.{buffer_low}
use Rattle.kernel.proofs.Accessing.{lent_closed, lent_open}
use Rattle.kernel.proofs.Tables.lent_good.Goals as goal

pub returns-in_default : goal.returns-in_default
returns-in_default c = lent_closed _ _ c.in_default.ensures.found

pub lent_at-requires : goal.lent_at-requires
lent_at-requires c = buffer_low _ _ _ _ c.requires c.in-Some.ensures.found c.line.ensures

pub returns : goal.returns
returns c = lent_open _ _ _ _ c.in-Some.ensures.found c.line.ensures _ c.lent_at.ensures

-- `Tables::lent` meets its contract.
use Rattle.std.proofs.Common.{◌∙◌}
use Rattle.kernel.proofs.Accessing.{lent_refused, lent_ready}
use Rattle.kernel.proofs.Tables.lent.Goals as goal

pub returns-then-not-is_ready : goal.returns-then-not-is_ready
returns-then-not-is_ready c = lent_refused _ _ _ c.if-not-is_ready.ensures.0

pub returns : goal.returns
returns c = c.lent_good.ensures ∙ lent_ready _ _ _ c.if-not-is_ready.ensures.0

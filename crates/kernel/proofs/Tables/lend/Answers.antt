-- `Tables::lend` meets its contract.
use Rattle.std.proofs.Common.{◌∙◌}
use Rattle.kernel.proofs.Accessing.{part_refused, part_ready}
use Rattle.kernel.proofs.Tables.lend.Goals as goal

pub returns-then-not-is_ready : goal.returns-then-not-is_ready
returns-then-not-is_ready c = part_refused _ _ _ c.if-not-is_ready.ensures.0

pub returns : goal.returns
returns c = c.lend_good.ensures ∙ part_ready _ _ _ c.if-not-is_ready.ensures.0

-- `Tables::status_good` meets its contract.
use Rattle.std.proofs.Common.{◌∙◌}
use Rattle.kernel.proofs.Allocating.{status_short, status_done}
use Rattle.kernel.proofs.Tables.status_good.Goals as goal

pub returns-then-out-lt5 : goal.returns-then-out-lt5
returns-then-out-lt5 c = λ ram. status_short _ ram _ _ c.if-out-lt5.true c.refuse.ensures

pub returns : goal.returns
returns c = λ ram. status_done c.args.self ram c.args.out.now _ _ c.if-out-lt5.false (c.copy_from_slice.ensures.after ∙ c.counts.ensures) c.done.ensures

-- `Tables::one_less` meets its contract.
use Rattle.kernel.proofs.Shrinking.{less_shared, less_other}
use Rattle.kernel.proofs.Tables.one_less.Goals as goal

pub returns-then-self-row-eq-SHARED : goal.returns-then-self-row-eq-SHARED
returns-then-self-row-eq-SHARED c = less_shared c.args.self _ _ c.from.ensures c.last_row-row.ensures.0 c.if-self-row-eq-SHARED.true

pub returns-else-self-row-eq-SHARED : goal.returns-else-self-row-eq-SHARED
returns-else-self-row-eq-SHARED c = less_other c.args.self _ _ c.from.ensures c.last_row-row.ensures.0 c.if-self-row-eq-SHARED.false

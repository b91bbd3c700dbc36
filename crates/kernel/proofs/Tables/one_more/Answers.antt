-- `Tables::one_more` meets its contract.
use Rattle.std.proofs.Common.{rules}
use Rattle.kernel.proofs.Known.{sized}
use Rattle.kernel.proofs.Growing.{more_row, more_made, more_none}
use Rattle.kernel.proofs.Tables.one_more.Goals as goal

pub returns-in_default : goal.returns-in_default
returns-in_default c = more_none c.args.self c.in_default.ensures

pub bounds-next-row : goal.bounds-next-row
bounds-next-row c = more_row c.args.self _ (sized c.args.self _ c.well_formed.0) c.in-Some.ensures

pub overflow_cast-next : goal.overflow_cast-next
overflow_cast-next c = let small = more_row c.args.self _ (sized c.args.self _ c.well_formed.0) c.in-Some.ensures in search rules

pub returns : goal.returns
returns c = more_made c.args.self _ _ c.in-Some.ensures c.from.ensures

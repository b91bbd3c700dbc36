-- `Tables::empty` meets its contract.
use Rattle.kernel.proofs.Resetting.{none-behind, none_left}
use Rattle.kernel.proofs.Tables.empty.Goals as goal

pub empty_rows-requires : goal.empty_rows-requires
empty_rows-requires c = none-behind c.args.self.now _ c.from.ensures c.requires

pub returns : goal.returns
returns c = rw (← c.if-not-closes_all.ensures) (none_left c.args.self.now _ c.from-gone.ensures _ c.empty_rows.ensures _ c.shrink.ensures)

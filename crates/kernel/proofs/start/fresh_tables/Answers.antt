-- `start::fresh_tables` meets its contract.
use Rattle.kernel.proofs.Starting.{start-tables}
use Rattle.kernel.proofs.start.fresh_tables.Goals as goal

pub returns : goal.returns
returns c = start-tables c.args.room c.args.list.now _ _ _ _ c.requires.1 c.none-next.ensures c.lay-next.ensures c.fresh_classes-next.ensures c.built_in-next.ensures

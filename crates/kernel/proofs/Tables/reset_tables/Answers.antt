-- `Tables::reset_tables` meets its contract.
use Rattle.kernel.proofs.Resetting.{tables-reset}
use Rattle.kernel.proofs.Tables.reset_tables.Goals as goal

pub returns : goal.returns
returns c = tables-reset c.args.self c.args.flags _ _ _ c.empty.ensures c.restore.ensures c.release.ensures

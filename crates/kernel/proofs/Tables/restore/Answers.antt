-- `Tables::restore` meets its contract.
use Rattle.kernel.proofs.Resetting.{devices-restored}
use Rattle.kernel.proofs.Tables.restore.Goals as goal

pub returns : goal.returns
returns c = rw (← c.if-not-restores.ensures) (devices-restored c.args.self.now _ c.built_in-self.ensures)

-- `Tables::release` meets its contract.
use Rattle.kernel.proofs.Resetting.{segments-released}
use Rattle.kernel.proofs.Tables.release.Goals as goal

pub returns : goal.returns
returns c = rw (← c.if-not-releases.ensures) (segments-released c.args.self.now _ c.release.ensures)

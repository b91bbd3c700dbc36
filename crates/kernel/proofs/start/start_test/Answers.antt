-- `start::start_test` meets its contract.
use Rattle.kernel.proofs.Starting.{start-tested}
use Rattle.kernel.proofs.start.start_test.Goals as goal

pub returns : goal.returns
returns c = start-tested _ _ c.args.list.now _ _ c.if-segments-gt32.false c.lay.ensures c.list_test.ensures

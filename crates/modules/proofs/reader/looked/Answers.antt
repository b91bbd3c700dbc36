-- `reader::looked` meets its contract.
use Rattle.modules.specs.Laws.Positions.{at_most}
use Rattle.modules.proofs.reader.looked.Goals as goal

pub returns : goal.returns
returns c = rw c.min.ensures (at_most 65535 c.args.stream.now)

-- `Tables::room_for` meets its contract.
use Rattle.kernel.proofs.Growing.{room_made}
use Rattle.kernel.proofs.Tables.room_for.Goals as goal

pub returns : goal.returns
returns c =
    room_made c.args.self c.requires.0 _ _ _ _ _ _ c.requires.1 c.requires.2 c.from.ensures c.from-2.ensures c.from-held.ensures c.spare.ensures.0

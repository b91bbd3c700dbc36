-- `Tables::room_to_link` meets its contract.
use Rattle.std.proofs.Common.{arith}
use Rattle.kernel.proofs.Growing.{total-most}
use Rattle.kernel.proofs.Tables.room_to_link.Goals as goal

pub room_for-requires : goal.room_for-requires
room_for-requires c = (c.requires.0, omega arith, omega (arith, c.requires.1), omega (arith, total-most _ c.requires.0 _ c.requires.1))

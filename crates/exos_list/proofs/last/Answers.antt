-- `exos_list::last`: where nothing is left to write, a write that is done stands for it.
use Rattle.std.proofs.Common.{Ok}
use Rattle.exos_list.proofs.last.Goals as goal

pub returns-in-Going : goal.returns-in-Going
returns-in-Going c = (Ok tt, rw c.in-Going.is)

pub returns-in-Ended : goal.returns-in-Ended
returns-in-Ended c = (Ok tt, rw c.in-Ended.is)

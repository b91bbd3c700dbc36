-- `Tables::close_good` meets its contract.
use Rattle.kernel.proofs.Closing.{close_gone, close_done}
use Rattle.kernel.proofs.Tables.close_good.Goals as goal

pub returns-in_default : goal.returns-in_default
returns-in_default c = λ out. rw c.refuse.ensures (close_gone _ _ _ out c.in_default.ensures)

pub returns : goal.returns
returns c = λ out. close_done _ _ _ out _ c.in-Some.ensures _ _ _ c.closed.ensures c.close_record-moved.ensures.bytes c.close_record-moved.ensures.moved

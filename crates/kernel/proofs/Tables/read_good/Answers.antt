-- `read_good` meets its contract: each refusal and the read are a branch of `on_read`, and the buffer lies inside the line.
use Rattle.kernel.proofs.Spans.{given_chain}
use Rattle.kernel.proofs.Accessing.{read_closed, read_short, read_done}
use Rattle.kernel.proofs.Tables.read_good.Goals as goal

pub returns-in_default : goal.returns-in_default
returns-in_default c = rw c.refuse.ensures (read_closed _ _ _ _ _ _ c.in_default.ensures.found)

pub returns-then-out-count : goal.returns-then-out-count
returns-then-out-count c =
    rw c.refuse-then-out-count.ensures
    (read_short _ _ _ _ _ _ _ c.in-Some.ensures.found _ _ _ c.from-from.ensures c.from.ensures c.given-count.ensures.0 c.if-out-count.true)

pub get-requires : goal.get-requires
get-requires c =
    (c.if-out-count.false, λ some. given_chain _ _ _ _ c.requires.0 c.in-Some.ensures.found c.line.ensures _ _ _ _ c.requires.1 c.given-count.ensures.0 some)

pub returns : goal.returns
returns c =
    read_done _ _ _ _ _ _ _ c.in-Some.ensures.found _ _ _ c.from-from.ensures c.from.ensures c.given-count.ensures.0 c.if-out-count.false _ c.line.ensures
    _ c.get.ensures _ c.done.ensures

-- `write_good` meets its contract: each refusal and the write are a branch of `on_write`, and the buffer lies inside the line.
use Rattle.kernel.proofs.Spans.{bytes_chain}
use Rattle.kernel.proofs.Accessing.{write_closed, write_beyond, write_done}
use Rattle.kernel.proofs.Tables.write_good.Goals as goal

pub returns-in_default : goal.returns-in_default
returns-in_default c = rw c.refuse.ensures (write_closed _ _ c.args.bytes.now _ _ c.in_default.ensures.found)

pub returns-then-beyond : goal.returns-then-beyond
returns-then-beyond c =
    rw c.refuse-then-beyond.ensures (write_beyond _ _ c.args.bytes.now _ _ _ c.in-Some.ensures.found _ c.from-from.ensures c.if-beyond.ensures)

pub put-requires : goal.put-requires
put-requires c = bytes_chain _ _ _ _ c.requires.0 c.in-Some.ensures.found c.line.ensures _ _ _ c.requires.1 c.if-beyond.ensures

pub returns : goal.returns
returns c =
    write_done _ _ c.args.bytes.now _ _ _ c.in-Some.ensures.found _ c.from-from.ensures c.if-beyond.ensures _ c.line.ensures _ c.put.ensures _ c.done.ensures

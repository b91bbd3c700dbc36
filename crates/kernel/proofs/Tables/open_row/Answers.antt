-- `Tables::open_row` meets its contract.
use Rattle.std.proofs.Common.{sym}
use Rattle.kernel.proofs.Refusing.{quietly}
use Rattle.kernel.proofs.Opening.{row-full, row-none, row_fits, row-chain, row_done}
use Rattle.kernel.proofs.Tables.open_row.Goals as goal

pub returns-then-self-ge32 : goal.returns-then-self-ge32
returns-then-self-ge32 c = quietly c.args.self _ _ _ _ c.refuse.ensures (row-full _ _ c.if-self-ge32.true) _

pub returns-then-not-room_for : goal.returns-then-not-room_for
returns-then-not-room_for c =
    quietly c.args.self _ _ _ _ c.refuse-then-not-room_for.ensures
    (row-none _ c.args.c _ _ _ c.if-self-ge32.false c.total-total.ensures.0 c.from.ensures c.room_for.ensures (sym c.if-not-room_for.true)) _

pub open_record-requires : goal.open_record-requires
open_record-requires c =
    row-chain _ c.args.c c.requires.0 c.requires.2
    (row_fits _ _ _ _ _ c.if-self-ge32.false c.total-total.ensures.0 c.from.ensures c.room_for.ensures (sym c.if-not-room_for.false))
    _ _ c.append-next.ensures c.line.ensures _ c.total-total.ensures.0 _ c.requires.1

pub returns : goal.returns
returns c =
    row_done _ c.args.c c.requires.0 c.requires.2
    (row_fits _ _ _ _ _ c.if-self-ge32.false c.total-total.ensures.0 c.from.ensures c.room_for.ensures (sym c.if-not-room_for.false))
    _ _ c.append-next.ensures c.line.ensures _ c.total-total.ensures.0 _ _ _ _ c.open_record.ensures c.from-2.ensures c.done.ensures

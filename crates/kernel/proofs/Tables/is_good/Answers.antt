-- `Tables::is_good` meets its contract.
use Rattle.kernel.specs.Laws.Good.{good_no, good_made}
use Rattle.kernel.proofs.Known.{sized}
use Rattle.kernel.proofs.Tables.is_good.Goals as goal

pub returns-then-not-sizes_test : goal.returns-then-not-sizes_test
returns-then-not-sizes_test c = good_no c.args.self (sized c.args.self _ c.well_formed.0) c.if-not-sizes_test.ensures

pub returns : goal.returns
returns c =
    good_made c.args.self _ _ _ _ _ _ _ _ _ _ _ _ _ _ _ _ _ c.from-segments.ensures c.from-held.ensures c.from.ensures c.from-known.ensures c.last_row.ensures.0
    c.class_at-class.ensures c.total-total.ensures.0 (rw c.total-total.ensures.0 at c.boundary_at.ensures) c.list_test.ensures c.class_test.ensures c.room_test.ensures c.chain_test.ensures c.channel_test.ensures
    c.chain_length.ensures c.user_test.ensures c.device_test.ensures c.default_test.ensures

-- `Tables::closed` meets its contract.
use Rattle.kernel.proofs.Closing.{rows_fit, rows_closed}
use Rattle.kernel.proofs.NoChange.{shrunk-none}
use Rattle.kernel.proofs.Tables.closed.Goals as goal

pub returns-then-gone-eq0 : goal.returns-then-gone-eq0
returns-then-gone-eq0 c =
    rows_closed c.args.self _ _ _ _ _ _ c.remove_row.ensures c.total.ensures.0 c.chain_length-keep.ensures c.from.ensures c.saturating_sub-gone.ensures
    _ (shrunk-none _ _ c.if-gone-eq0.true)

pub shrink-requires : goal.shrink-requires
shrink-requires c =
    rows_fit c.args.self _ _ _ _ _ _ c.remove_row.ensures c.total.ensures.0 c.chain_length-keep.ensures c.from.ensures c.saturating_sub-gone.ensures c.requires.0

pub returns : goal.returns
returns c =
    rows_closed c.args.self _ _ _ _ _ _ c.remove_row.ensures c.total.ensures.0 c.chain_length-keep.ensures c.from.ensures c.saturating_sub-gone.ensures
    _ c.shrink.ensures

-- `Tables::close_record` meets its contract.
use Rattle.kernel.proofs.Closing.{record_chain}
use Rattle.kernel.proofs.Tables.close_record.Goals as goal

pub close_record-requires : goal.close_record-requires
close_record-requires c =
    record_chain _ _ _ _ _ _ _ c.record_at-start.ensures.0 c.size_at-gap.ensures.0 c.total.ensures.0 c.line.ensures c.requires.0 c.requires.1 c.requires.2

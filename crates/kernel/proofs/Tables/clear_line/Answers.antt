-- `Tables::clear_line` meets its contract.
use Rattle.kernel.proofs.Resetting.{line_chain}
use Rattle.kernel.proofs.Tables.clear_line.Goals as goal

pub clear-requires : goal.clear-requires
clear-requires c = line_chain _ _ _ _ c.line.ensures c.total.ensures.0 c.requires.0 c.requires.1

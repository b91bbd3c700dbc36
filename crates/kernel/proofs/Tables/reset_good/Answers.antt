-- `Tables::reset_good` meets its contract.
use Rattle.kernel.proofs.Resetting.{reset-refused, reset-done}
use Rattle.kernel.proofs.Tables.reset_good.Goals as goal

pub returns-then-other_bits : goal.returns-then-other_bits
returns-then-other_bits c = λ out. reset-refused _ _ _ out _ c.if-other_bits.ensures c.refuse.ensures

pub returns : goal.returns
returns c = λ out. reset-done _ _ _ out _ c.if-other_bits.ensures _ _ c.reset_tables.ensures c.reset_ram.ensures c.done.ensures

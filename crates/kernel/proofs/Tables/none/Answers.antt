-- `Tables::none` meets its contract.
use Rattle.std.proofs.Common.{refl}
use Rattle.kernel.specs.Definition.Start.{no_tables}
use Rattle.kernel.proofs.Tables.none.Goals as goal

pub returns : goal.returns
unfolding no_tables
returns c = refl

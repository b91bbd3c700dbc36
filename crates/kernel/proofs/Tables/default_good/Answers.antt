-- `Tables::default_good` meets its contract.
use Rattle.std.proofs.Common.{sym, rules}
use Rattle.names.specs.Laws.Runs.{default-right}
use Rattle.kernel.proofs.Defaulting.{default-refused, default-done}
use Rattle.kernel.proofs.Refusing.{quietly}
use Rattle.kernel.proofs.Tables.default_good.Goals as goal

pub returns-then-not-default_name : goal.returns-then-not-default_name
returns-then-not-default_name c = quietly _ _ _ _ _ c.refuse.ensures (default-refused _ _ _ c.if-not-default_name.ensures)

pub overflow_cast-next : goal.overflow_cast-next
overflow_cast-next c = let few = (default-right _ (sym c.if-not-default_name.ensures)).1 in search rules

pub returns : goal.returns
returns c = quietly _ _ _ _ _ c.done.ensures (default-done _ _ _ c.if-not-default_name.ensures _ c.word-next.ensures)

-- `Tables::open_named` meets its contract.
use Rattle.std.proofs.Common.{sym}
use Rattle.kernel.specs.Laws.Wants.{parts-few}
use Rattle.kernel.proofs.Refusing.{quietly}
use Rattle.kernel.proofs.Opening.{onward, named_none, named_to}
use Rattle.kernel.proofs.Tables.open_named.Goals as goal

pub returns-in_default : goal.returns-in_default
returns-in_default c = quietly c.args.self _ _ _ _ c.refuse.ensures (named_none _ _ _ _ _ c.in_default.ensures) _

pub wanted-w-requires : goal.wanted-w-requires
wanted-w-requires c = parts-few _ _ (sym c.in-Some.ensures)

pub returns : goal.returns
returns c = λ out. onward c.args.self _ _ _ _ out (named_to _ _ _ _ _ _ _ c.in-Some.ensures c.wanted-w.ensures) (c.open_to.ensures out)

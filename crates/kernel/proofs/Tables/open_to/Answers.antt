-- `Tables::open_to` meets its contract.
use Rattle.kernel.proofs.Refusing.{quietly}
use Rattle.kernel.proofs.Opening.{onward, to_none, to_driver, to_row}
use Rattle.kernel.proofs.Tables.open_to.Goals as goal

pub returns-in_default : goal.returns-in_default
returns-in_default c = quietly c.args.self _ _ _ _ c.refuse.ensures (to_none _ _ _ _ c.args.w c.in_default.ensures) _

pub returns-then-driver-ne0 : goal.returns-then-driver-ne0
returns-then-driver-ne0 c =
    quietly c.args.self _ _ _ _ c.refuse-then-driver-ne0.ensures (to_driver _ _ _ _ c.args.w _ c.in-Some.ensures c.if-driver-ne0.true) _

pub returns : goal.returns
returns c = λ out. onward c.args.self _ _ _ _ out (to_row _ _ _ _ c.args.w _ c.in-Some.ensures c.if-driver-ne0.false) (c.open_row.ensures out)

-- `Tables::open_good` meets its contract.
use Rattle.std.proofs.Common.{arith}
use Rattle.kernel.proofs.Refusing.{quietly}
use Rattle.kernel.proofs.Opening.{onward, open_now, good_none, good-exists, good-named}
use Rattle.kernel.proofs.Tables.open_good.Goals as goal

pub returns-then-channel-eq255 : goal.returns-then-channel-eq255
returns-then-channel-eq255 c = quietly c.args.self _ _ _ _ c.refuse.ensures (good_none _ _ _ _ _ c.if-channel-eq255.true) _

pub returns-then-is_some : goal.returns-then-is_some
returns-then-is_some c =
    quietly c.args.self _ _ _ _ c.refuse-then-is_some.ensures
    (good-exists _ _ _ _ _ (omega arith) _ (open_now c.args.self c.args.channel _ _ c.channel_row.ensures c.is_some.ensures) c.if-is_some.true) _

pub returns : goal.returns
returns c = λ out. onward c.args.self _ _ _ _ out
    (good-named _ _ _ _ _ (omega arith) _ (open_now c.args.self c.args.channel _ _ c.channel_row.ensures c.is_some.ensures) c.if-is_some.false) (c.open_named.ensures out)

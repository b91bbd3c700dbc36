-- `Tables::start` meets its contract.
use Rattle.kernel.proofs.Starting.{start-refused, start-done}
use Rattle.kernel.proofs.Tables.start.Goals as goal

pub returns-then-not-start_test : goal.returns-then-not-start_test
returns-then-not-start_test c = λ out. start-refused c.args.self _ _ c.args.list.now out _ c.if-not-start_test.ensures c.refuse.ensures

pub returns : goal.returns
returns c = λ out. start-done c.args.self _ _ c.args.list.now out _ c.if-not-start_test.ensures _ _ c.fresh_tables-next.ensures (c.fill.ensures.after (λ y e. e)) c.done.ensures

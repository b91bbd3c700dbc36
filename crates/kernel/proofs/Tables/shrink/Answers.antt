-- `Tables::shrink` meets its contract.
use Rattle.std.proofs.Common.{◌∙◌, ◌-◌, arith}
use Rattle.kernel.proofs.NoChange.{shrunk-none}
use Rattle.kernel.proofs.Shrinking.{less-fit, less-held, shrunk-step}
use Rattle.kernel.proofs.Tables.shrink.Goals as goal

pub loop-preserved : goal.loop-preserved
loop-preserved c =
    let t = c.loop.t in
    let e = c.one_less-t.ensures in (
      rw (e, less-held) (omega arith),
      rw e (less-fit t (omega arith) c.loop.invariant.1),
      rw (e, ← shrunk-step c.args.k c.loop.counter t c.loop-test.true) c.loop.invariant.2,
    )

pub returns : goal.returns
returns c = shrunk-none (c.args.k - c.loop.counter) c.loop.t (omega arith) ∙ c.loop.invariant.2

-- `Tables::grow` meets its contract.
use Rattle.std.proofs.Common.{◌∙◌, ◌-◌, arith}
use Rattle.kernel.proofs.NoChange.{grown-none}
use Rattle.kernel.proofs.Growing.{more-held, grown-step}
use Rattle.kernel.proofs.Tables.grow.Goals as goal

pub loop-preserved : goal.loop-preserved
loop-preserved c = (
  rw c.one_more-t.ensures (omega (arith, more-held c.loop.t)),
  rw (c.one_more-t.ensures, ← grown-step c.args.k c.loop.counter c.loop.t c.loop-test.true) c.loop.invariant.1,
)

pub returns : goal.returns
returns c = grown-none (c.args.k - c.loop.counter) c.loop.t (omega arith) ∙ c.loop.invariant.1

use Rattle.std.proofs.Common.{refl}
use Rattle.rows.specs.Definition.Lists.{up_to}
use Rattle.rows.specs.Definition.Tests.{letter_row}
use Rattle.rows.proofs.Tests.{all_more}
use Rattle.rows.proofs.devices.letters.Goals as goal

pub loop-i-init : goal.loop-i-init
unfolding up_to
loop-i-init c = refl

pub loop-i-preserved : goal.loop-i-preserved
loop-i-preserved c = rw c.from.ensures (all_more (letter_row c.args.name.now c.args.n) _ _ c.loop-i.invariant)

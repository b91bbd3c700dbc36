use Rattle.std.proofs.Common.{refl}
use Rattle.rows.specs.Definition.Lists.{up_to}
use Rattle.rows.specs.Definition.Devices.{same_bytes}
use Rattle.rows.proofs.Tests.{all_more}
use Rattle.rows.proofs.devices.same_bytes.Goals as goal

pub loop-k-init : goal.loop-k-init
unfolding up_to
loop-k-init c = refl

pub loop-k-preserved : goal.loop-k-preserved
loop-k-preserved c = all_more (same_bytes c.args.a.now c.args.b.now) _ _ c.loop-k.invariant

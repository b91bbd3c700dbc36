-- `devices::same_bytes` meets its contract. The loop's invariant: `same` is the test over the bytes passed.
use Rattle.std.proofs.Common.{◌≡◌}
use Rattle.rows.specs.Definition.Lists.{up_to}
use Rattle.rows.specs.Definition.Devices.{same_bytes}
use Rattle.rows.proofs.devices.same_bytes.Given as goal

abbrev pub invariant-loop-k : goal.invariant-loop-k
invariant-loop-k l = l.same ≡ up_to l.k (same_bytes l.a l.b)

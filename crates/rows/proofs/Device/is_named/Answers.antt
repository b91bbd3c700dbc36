-- `Device::is_named` meets its contract.
use Rattle.std.proofs.Common.{eq-eqb}
use Rattle.rows.proofs.Device.is_named.Goals as goal

pub returns-then-self-n : goal.returns-then-self-n
returns-then-self-n c = rw (eq-eqb _ _ c.if-self-n.true) c.same_bytes.ensures

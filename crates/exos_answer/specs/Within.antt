-- What holds of the state between two turns.
use Rattle.std.specs.Prelude.{◌≤◌}
use Rattle.exos_answer.specs.declared.State as declared

pub record Ready (s : declared.State) : Type 0 where
  pub size : s.machine.size ≤ 524288
  pub order : s.from ≤ s.filled
  pub filled : s.filled ≤ 131072
  pub used : s.used ≤ 65536

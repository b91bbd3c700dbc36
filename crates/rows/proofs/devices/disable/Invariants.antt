-- `devices::disable` meets its contract. The loop's invariant: the rows passed are disabled where they have the name.
use Rattle.std.proofs.Common.{◌≡◌, ◌++◌, map, take, drop}
use Rattle.rows.specs.Definition.Devices.{disabled_by}
use Rattle.rows.proofs.devices.disable.Given as goal

abbrev pub invariant-loop-d : goal.invariant-loop-d
invariant-loop-d l = l.d-items ≡ map (disabled_by l.name l.n) (take l.d-index l.fn.devices) ++ drop l.d-index l.fn.devices

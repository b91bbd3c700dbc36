-- `devices::letters` meets its contract. The loop's invariant: `ok` is the test over the bytes passed.
use Rattle.std.proofs.Common.{◌≡◌}
use Rattle.rows.specs.Definition.Lists.{up_to}
use Rattle.rows.specs.Definition.Tests.{letter_row}
use Rattle.rows.proofs.devices.letters.Given as goal

abbrev pub invariant-loop-i : goal.invariant-loop-i
invariant-loop-i l = l.ok ≡ up_to l.i (letter_row l.name l.n)

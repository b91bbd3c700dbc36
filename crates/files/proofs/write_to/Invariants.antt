-- No more is written than there is.
use Rattle.std.proofs.Common.{◌≤◌, length}
use Rattle.files.proofs.write_to.Given as goal

abbrev pub invariant-loop : goal.invariant-loop
invariant-loop g l = l.done ≤ length l.bytes

-- What holds between two turns is held, and a record's number grows by less than a buffer's bytes a turn.
use Rattle.std.proofs.Common.{◌*◌, ◌≤◌}
use Rattle.exos_audit.specs.Definition.Turns.{Held}
use Rattle.exos_audit.proofs.main.Given as goal

abbrev pub invariant-loop : goal.invariant-loop
invariant-loop l = Held l.s 69634 × (l.s.number ≤ 69634 * l.counter)

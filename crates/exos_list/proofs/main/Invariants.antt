-- What holds between two turns is held from turn to turn.
use Rattle.exos_list.specs.Definition.Turns.{Held}
use Rattle.exos_list.proofs.main.Given as goal

abbrev pub invariant-loop : goal.invariant-loop
invariant-loop l = Held l.s 69634

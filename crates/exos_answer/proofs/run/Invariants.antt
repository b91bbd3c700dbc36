-- What holds between two turns.
use Rattle.exos_answer.specs.Within.{Ready}
use Rattle.exos_answer.proofs.run.Given as goal

abbrev pub invariant-loop : goal.invariant-loop
invariant-loop l = Ready l.s

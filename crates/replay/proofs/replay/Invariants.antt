-- `replay::replay` meets its contract.
use Rattle.std.proofs.Common.{◌≡◌, true, length}
use Rattle.kernel.specs.Definition.Good.{Good}
use Rattle.kernel.specs.Definition.Step.{result_of}
use Rattle.kernel.specs.Definition.Tables.{ram_size}
use Rattle.replay.proofs.Laws.{Goes}
use Rattle.replay.proofs.replay.Given as goal

abbrev pub invariant-loop-r : goal.invariant-loop-r
invariant-loop-r l = record {
  goes : Goes (result_of l.initial.so_far.last l.initial.ram l.initial.out) (result_of l.so_far.last l.ram l.out) l.input l.left;
  known : l.so_far.good ≡ true → Good l.so_far.last.tables × (length l.ram ≡ ram_size l.so_far.last.tables);
  ram : length l.ram ≡ length l.initial.ram;
  out : length l.out ≡ length l.initial.out;
}

abbrev pub decreases-loop-r : goal.decreases-loop-r
decreases-loop-r l = length l.left

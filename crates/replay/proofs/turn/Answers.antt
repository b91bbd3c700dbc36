-- `replay::turn` meets its contract.
use Rattle.replay.proofs.Laws.{stays-ready}
use Rattle.replay.proofs.turn.Goals as goal

pub returns-then-so_far : goal.returns-then-so_far
returns-then-so_far c = (c.call_good-last.ensures, λ _. stays-ready _ _ _ _ _ _ _ _ (c.requires c.if-so_far.true) c.call_good-last.auto.ram c.call_good-last.ensures)

-- `load_good` meets its contract: each refusal and the load are a branch of `on_load`, and the bytes lie in their segment.
use Rattle.kernel.proofs.Spans.{reach_inside}
use Rattle.kernel.proofs.Accessing.{load_other, load_beyond, load_short, load_done}
use Rattle.kernel.proofs.Tables.load_good.Goals as goal
use Rattle.kernel.proofs.Tables.load_good.Goals.{then-beyond-via-then-beyond, then-beyond-via-else-beyond+then-out-count}

pub returns-in_default : goal.returns-in_default
returns-in_default c = rw c.refuse.ensures (load_other _ _ _ _ _ _ c.in_default.ensures)

pub returns-then-beyond : goal.returns-then-beyond
returns-then-beyond c =
    elim c.then-beyond.branch [
      | then-beyond-via-then-beyond w ↦
          rw c.refuse-then-beyond.ensures
          (load_beyond _ _ _ _ _ _ _ c.requires.0 c.in-Some.ensures _ _ _ c.reach_of.ensures c.from-from.ensures c.from-count.ensures w.if-beyond.ensures)
      | then-beyond-via-else-beyond+then-out-count w ↦
          rw c.refuse-then-beyond.ensures
          (load_short _ _ _ _ _ _ _ c.requires.0 c.in-Some.ensures _ _ _ c.reach_of.ensures c.from-from.ensures c.from-count.ensures w.if-beyond.ensures w.if-out-count.true)
    ]

pub load-requires : goal.load-requires
load-requires c = ((reach_inside _ _ _ _ _ _ _ c.requires.0 c.in-Some.ensures c.reach_of.ensures c.if-beyond.ensures c.requires.1).0, c.if-out-count.false)

pub returns : goal.returns
returns c =
    load_done _ _ _ _ _ _ _ c.requires.0 c.in-Some.ensures _ _ _ c.reach_of.ensures c.from-from.ensures c.from-count.ensures c.if-beyond.ensures c.if-out-count.false _ c.load.ensures _ c.done.ensures

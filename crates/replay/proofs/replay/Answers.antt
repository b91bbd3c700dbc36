use Rattle.std.proofs.Common.{sym, ◌∙◌}
use Rattle.events.proofs.Walks.{body_taken, rest_taken}
use Rattle.replay.specs.Laws.Records.{records-end}
use Rattle.replay.proofs.Laws.{goes_on, goes_last}
use Rattle.replay.proofs.replay.Goals as goal

pub loop-r-preserved : goal.loop-r-preserved
loop-r-preserved c =
    let i = c.loop-r.invariant in
    let left = c.loop-r.left.now in
    let r = c.in-Ok.r in
    let s = c.turn-so_far in record {
      goes = rw (rest_taken left r) (goes_on _ _ _ left r _ i.goes c.in-Ok.ensures (rw (body_taken left r) at s.ensures.0));
      known = s.ensures.1;
      ram = s.auto.ram ∙ i.ram;
      out = s.auto.out ∙ i.out;
    }

pub returns : goal.returns
returns c = goes_last _ _ _ _ c.loop-r.invariant.goes (records-end _ _ (sym c.in_default.ensures))

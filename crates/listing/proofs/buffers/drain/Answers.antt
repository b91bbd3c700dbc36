use Rattle.std.proofs.Common.{◌∙◌, sym, rules, arith}
use Rattle.events.proofs.Walks.{body_taken, rest_taken, rest_left}
use Rattle.listing.proofs.Carries.{named, leaves, put-behind, drain-full, drain-more, drain-bad, drain-line}
use Rattle.listing.proofs.buffers.drain.Goals as goal
use Rattle.listing.proofs.buffers.drain.Goals.{then-to-lt-LONGEST, else-to-lt-LONGEST+in-Err-Cut, else-to-lt-LONGEST+in-Err-Bad}

pub loop-to-preserved : goal.loop-to-preserved
loop-to-preserved c =
    let i = c.loop-to.invariant in
    let left = c.loop-to.left.now in
    let r = c.in-Ok.r in
    let s = rw (body_taken left r) at c.record-tables.ensures in record {
      goes =
          rw (rest_taken left r) (drain-line _ _ _ _ _ left _ _ i.goes i.used i.size (omega arith) r (sym c.in-Ok.ensures) _ _ _ _ _ s.0.tables-are s.0.ram-is s.0.output-is s.0.put.put);
      carried = s.1;
      left = rw (rest_taken left r) (rest_left r i.left c.in-Ok.ensures);
      used = s.0.room;
      size = s.0.put.long ∙ i.size;
      same = s.0.put.same ∙ i.same;
      behind = put-behind c.args.text.now i.behind s.0.put.put;
    }

pub returns : goal.returns
returns c =
    let i = c.loop-to.invariant in
    let text = c.args.text.now in
    let to = c.if-to-lt-LONGEST.to in
    elim c.if-to-lt-LONGEST.branch [
      | then-to-lt-LONGEST w ↦
          leaves {there = to.text.now} text (named w.to-is i.same) (search rules)
          (rw (w.stop-is, w.to-is, i.left.is) (drain-full _ _ _ _ _ _ _ _ i.goes i.used i.size (omega arith), i.carried, omega arith, i.used, i.behind))
      | else-to-lt-LONGEST+in-Err-Cut w ↦
          leaves {there = to.text.now} text (named w.to-is i.same) (search rules)
          (rw (w.stop-is, w.to-is, i.left.is) (drain-more _ _ _ _ _ _ _ _ i.goes i.used i.size (omega arith) (cc), i.carried, omega arith, i.used, i.behind))
      | else-to-lt-LONGEST+in-Err-Bad w ↦
          let p = w.put_bad.ensures in
          leaves {there = to.text.now} text (named w.to-is (p.0.same ∙ i.same)) (search rules)
          (rw (w.stop-is, w.to-is, i.left.is) (drain-bad _ _ _ _ _ _ _ _ i.goes i.used i.size (omega arith) (cc) _ _ p.0.put (p.0.long ∙ i.size), i.carried, omega arith, p.1, put-behind text i.behind p.0.put))
    ]

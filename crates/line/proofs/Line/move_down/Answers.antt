use Rattle.std.proofs.Common.{◌≡◌, ◌∙◌, ◌+◌, ◌-◌, arith, length}
use Rattle.line.specs.Laws.Moves.{length-down}
use Rattle.line.specs.Laws.Places.{reach-some}
use Rattle.line.proofs.Turns.{copied_none}
use Rattle.line.proofs.Moves.{back, down-run, down-inside, down_turn, down-whole}
use Rattle.line.proofs.Line.move_down.Goals as goal

pub loop-p-init : goal.loop-p-init
loop-p-init c =
    let line = c.args.self.now in
    (copied_none (back line.chain line.room c.args.total c.args.m) (back line.chain line.room c.args.total 0) c.args.ram.now 0 0 c.args.total, omega arith, omega arith)

pub copy_rise-requires : goal.copy_rise-requires
copy_rise-requires c =
    let line = c.args.self.now in
    let l = c.loop-p in
    let run = down-run line.chain line.room c.args.m c.args.total (length c.args.ram.now) l.p c.place-d.result c.place-s.result c.min-n.result
    c.requires c.place-s.ensures c.place-d.ensures (omega arith) c.loop-p-test.true l.invariant.1 in
    let inside = down-inside run in
    (omega arith, omega arith)

pub loop-p-smaller : goal.loop-p-smaller
loop-p-smaller c =
    let room = c.args.self.now.room in
    let p = c.loop-p.p in
    omega (arith, reach-some room (p - 1), reach-some room (p - 1 + c.args.m))

pub loop-p-preserved : goal.loop-p-preserved
loop-p-preserved c =
    let line = c.args.self.now in
    let l = c.loop-p in
    let run = down-run line.chain line.room c.args.m c.args.total (length c.args.ram.now) l.p c.place-d.result c.place-s.result c.min-n.result
    c.requires c.place-s.ensures c.place-d.ensures (omega arith) c.loop-p-test.true l.invariant.1 in
    (down_turn run c.args.ram.now l.ram c.copy_rise.new.ram l.invariant.0 c.copy_rise.ensures, omega arith, omega (arith, run.fits))

pub returns-clause-bytes : goal.returns-clause-bytes
returns-clause-bytes c =
    let l = c.loop-p in
    let a = c.args in
    let done : a.total - l.p ≡ a.total = omega arith in
    rw done at l.invariant.0 ∙ down-whole a.self.now.chain a.self.now.room a.m a.total (length a.ram.now) c.requires a.ram.now

pub returns-clause-moved : goal.returns-clause-moved
returns-clause-moved c = omega (arith, length-down c.args.self.now.chain c.args.self.now.room c.args.m c.args.total)

use Rattle.std.proofs.Common.{◌+◌, arith, length}
use Rattle.line.specs.Laws.Moves.{length-close}
use Rattle.line.specs.Definition.Line.{place_of}
use Rattle.line.proofs.Turns.{copied_none}
use Rattle.line.proofs.Moves.{up-run, up-inside, up_turn}
use Rattle.line.proofs.Line.move_up.Goals as goal

pub loop-p-init : goal.loop-p-init
loop-p-init c =
    let walk = place_of c.args.self.now.chain c.args.self.now.room in
    (copied_none walk walk c.args.ram.now c.args.start (c.args.start + c.args.gap) c.args.start, omega arith, omega arith, omega arith)

pub copy_fall-requires : goal.copy_fall-requires
copy_fall-requires c =
    let line = c.args.self.now in
    let run = up-run line.chain line.room c.args.total (length c.args.ram.now) c.loop-p.p c.args.gap c.place-d.result c.place-s.result c.min-n.result
    c.requires.1 c.place-s.ensures c.place-d.ensures (omega arith) (omega arith) in
    let inside = up-inside run in
    (inside.0, omega arith, inside.2, omega arith)

pub loop-p-preserved : goal.loop-p-preserved
loop-p-preserved c =
    let line = c.args.self.now in
    let l = c.loop-p in
    let run = up-run line.chain line.room c.args.total (length c.args.ram.now) l.p c.args.gap c.place-d.result c.place-s.result c.min-n.result
    c.requires.1 c.place-s.ensures c.place-d.ensures (omega arith) (omega arith) in (
      up_turn run c.args.ram.now l.ram c.copy_fall.new.ram c.args.start l.invariant.0 c.copy_fall.ensures l.invariant.1,
      omega arith,
      omega (arith, run.fits),
      omega arith,
    )

pub returns-clause-moved : goal.returns-clause-moved
returns-clause-moved c =
    omega (arith, length-close c.args.self.now.chain c.args.self.now.room c.args.start c.args.gap c.args.total)

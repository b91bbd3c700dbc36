use Rattle.std.proofs.Common.{◌≡◌, ◌+◌, ◌-◌, ◌∙◌, sym, length, refl, arith}
use Rattle.line.specs.Definition.Ram.{filled, bytes_from}
use Rattle.std.proofs.lemmas.Slice.{put_mid-paste}
use Rattle.line.specs.Within.Chains.{Chain}
use Rattle.line.specs.Within.Runs.{fall}
use Rattle.line.specs.Laws.Walks.{length-bytes}
use Rattle.line.specs.Laws.Places.{place_inside}
use Rattle.line.proofs.Turns.{part-length, get-turn}
use Rattle.line.proofs.Line.get.Goals as goal

pub loop-k-init : goal.loop-k-init
unfolding filled bytes_from
loop-k-init c = (refl, omega arith)

pub get_fall-requires : goal.get_fall-requires
get_fall-requires c =
    let line = c.args.self.now in
    let chained : Chain line.chain line.room (c.args.start + c.args.count) (length c.args.ram.now) = c.requires.1 (omega arith) in
    (omega (arith, part-length c.loop-k.k c.min-m.result c.loop-k.out (omega arith)), omega (arith, c.place-s.ensures, place_inside line.chain line.room (c.args.start + c.args.count) (length c.args.ram.now) chained (c.args.start + c.loop-k.k) (omega arith)))

pub loop-k-preserved : goal.loop-k-preserved
loop-k-preserved c =
    let line = c.args.self.now in
    let chained : Chain line.chain line.room (c.args.start + c.args.count) (length c.args.ram.now) = c.requires.1 (omega arith) in
    let l = c.loop-k in
    let s = c.place-s in
    let m = c.min-m in
    let run = c.get_fall in
    let got : run.new.out ≡ bytes_from (fall s.result) c.args.ram.now 0 m.result =
    rw (part-length l.k m.result l.out (omega arith)) at run.ensures in (
      put_mid-paste l.k (l.k + m.result - l.k) l.out run.new.out (bytes_from (fall s.result) c.args.ram.now 0 m.result) m.result got (omega arith)
          (sym (length-bytes (fall s.result) c.args.ram.now 0 m.result))
          ∙ get-turn line.chain line.room c.args.start s.result l.k m.result chained.small s.ensures (omega arith) c.args.ram.now c.args.out.now l.out l.invariant.0,
      omega arith,
    )

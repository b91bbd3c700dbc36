use Rattle.std.proofs.Common.{refl, rules, ◌<◌, length, arith}
use Rattle.text.specs.Laws.Text.{put_one}
use Rattle.writer.specs.Laws.Packing.{turns-none, turns_more, turns-add, shifted}
use Rattle.writer.proofs.packing.Sheet.put_bits.Goals as goal

pub loop-count-init : goal.loop-count-init
loop-count-init c = (turns-none _ _ _, refl)

pub loop-count-preserved : goal.loop-count-preserved
loop-count-preserved c =
    let l = c.loop-count in
    let t = l.invariant.0 in
    let room : l.self.pen.at < length l.self.text.now = omega (arith, l.invariant.1, c.requires.3, c.loop-count-test.true, t.put.put.stop, t.put.long) in
    (turns_more _ c.loop-count-test.true refl refl t (record { same = refl; long = search rules; put = put_one l.self.text.now l.self.pen.at _ room }), omega (arith, l.invariant.1))

pub returns : goal.returns
returns c =
    let l = c.loop-count in
    let p = c.args.self.now in
    turns-add p c.args.code c.args.width c.requires.2 (rw (shifted p.pen.held c.args.width c.requires.0.1 c.requires.1)) c.loop-count-test.false l.invariant.0

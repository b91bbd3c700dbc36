use Rattle.std.proofs.Common.{◌≡◌, ◌-◌, ◌*◌, ◌/◌, length, drop, refl, ◌∙◌, arith}
use Rattle.modules.specs.Definition.Bits.{bits_in}
use Rattle.modules.specs.Definition.Judging.{judged}
use Rattle.modules.specs.Within.Acts.{put_where}
use Rattle.modules.specs.Within.Scan.{stored_before}
use Rattle.modules.specs.Laws.Codes.{coded-one, coded-on, taken-few, shifted-is}
use Rattle.modules.specs.Laws.Positions.{number_at}
use Rattle.modules.specs.Laws.Turns.{starts, turn, ran_out, goes, halts, stopped, finished}
use Rattle.modules.proofs.reader.read.Goals as goal
use Rattle.modules.proofs.reader.read.Goals.{then-loop-left-test+then-end-next, else-loop-left-test+in-Err}

pub reader-init : goal.reader-init
reader-init c =
    let a = c.args in
    (omega arith, refl, c.requires.0, rw c.looked-seen.ensures.0 (starts a.stream.now a.target a.start a.storing (16384 * a.target.row) a.ram.now))

pub loop-left-init : goal.loop-left-init
loop-left-init c = (c.reader.invariant.0, omega arith, omega arith, coded-one _, refl)

pub overflow_sub-first : goal.overflow_sub-first
overflow_sub-first c =
    let l = c.loop-left in
    let r = c.reader in
    omega (arith, taken-few (l.at - r.at) l.code l.left l.invariant.3 c.loop-left-test.true, l.invariant.1)

pub loop-left-preserved : goal.loop-left-preserved
loop-left-preserved c =
    let l = c.loop-left in
    let r = c.reader in
    let seen = c.looked-seen.result.now in
    let p = c.loop-left-test.true in
    let few = taken-few (l.at - r.at) l.code l.left l.invariant.3 p in
    let y = shifted-is (l.at - r.at) l.code l.left l.invariant.3 p in
    let w = c.wanted-left.ensures in
    let room = c.if-end-next.false in
    let x = c.bits_of.ensures.0
    ∙ number_at seen (r.at / 8) l.at l.left room (omega (arith, l.invariant.1)) (omega (arith, few, l.invariant.1)) _ _ c.window-held.ensures.0 refl in (
      room,
      omega (arith, l.invariant.1),
      omega (arith, l.invariant.1, l.invariant.2),
      coded-on r.at l.at l.code l.left _ _ _ l.invariant.1 l.invariant.3 p y w,
      turn seen _ c.args.target r.c l.code l.left l.at p _ _ _ _ room x y w l.invariant.4,
    )

pub reader-preserved : goal.reader-preserved
reader-preserved c =
    let l = c.loop-left in
    let r = c.reader in
    let a = c.args in
    let p = c.perform in
    let seen = c.looked-seen.result.now in (
      l.invariant.0,
      p.auto.ram ∙ r.invariant.1,
      rw c.in-Ok.is at p.ensures.counts,
      goes (length seen) a.target r.c l.code l.left (drop l.at (bits_in seen)) _ c.loop-left-test.false p.ensures.acts a.storing (16384 * a.target.row) r.ram _
          p.ensures.stores _ l.invariant.4 _ _ r.invariant.3 _ c.in-Ok.is,
    )

pub returns : goal.returns
returns c =
    let l = c.loop-left in
    let r = c.reader in
    let a = c.args in
    let seen = c.looked-seen.result.now in
    let base = 16384 * a.target.row in
    let both : (c.settle.result ≡ judged a.target a.start a.stream.now) × (c.loop-left-test.ram ≡ put_where a.storing base a.ram.now (stored_before a.target a.start a.stream.now)) =
    elim c.loop-left-test.branch [
      | then-loop-left-test+then-end-next x ↦
          let out = ran_out seen (length seen) a.target r.c l.code l.left l.at x.loop-left-test.true x.if-end-next.true in
          finished c.settle.ensures (stopped (length seen) (drop l.at (bits_in seen)) a.storing base r.ram _ _ _ _ _ (out ∙ l.invariant.4) r.invariant.3 x.stop-is x.ram-is)
      | else-loop-left-test+in-Err x ↦
          finished c.settle.ensures
          (halts (length seen) a.target r.c l.code l.left (drop l.at (bits_in seen)) _ x.loop-left-test.false x.perform.ensures.acts a.storing base r.ram _ x.perform.ensures.stores _
          l.invariant.4 _ _ r.invariant.3 _ _ _ x.in-Err.is x.stop-is x.ram-is)
    ] in
    record { judges = both.0; stores = both.1 }

-- `exos_audit::turn` meets its contract.
use Rattle.std.proofs.Common.{◌≡◌, length, arith}
use Rattle.exos_audit.proofs.Branches.{within, held, short, on-more}
use Rattle.exos_audit.proofs.turn.Goals as goal

pub fetch-requires : goal.fetch-requires
fetch-requires c =
    let a = c.args in
    let j = c.judge-j in
    let h = c.requires.0 in
    let e : length a.buf.now ≡ 69634 = omega arith in
    let l = short a.s a.ram.now a.out.now a.buf.now j.result _ _ j.ensures.0 69634 e h j.ensures.2 c.in-Ok.is in
    (held a.s a.ram.now a.out.now a.buf.now j.result _ _ j.ensures.0 69634 e h j.ensures.2 j.ensures.1, omega (arith, l))

pub returns-in-Ok : goal.returns-in-Ok
returns-in-Ok c =
    let a = c.args in
    let j = c.judge-j in
    let h = c.requires.0 in
    let f = c.fetch in
    let e : length a.buf.now ≡ 69634 = omega arith in
    let k = within a.s a.ram.now a.out.now a.buf.now j.result _ _ j.ensures.0 69634 e h j.ensures.2 in (
      on-more a.s a.ram.now a.out.now a.buf.now j.result _ _ j.ensures.0 69634 e h j.ensures.2 c.in-Ok.is f.result _ _ f.ensures.1 f.ensures.2 f.ensures.3 f.ensures.0.1,
      f.ensures.4,
      omega (arith, f.ensures.3, j.ensures.3, k, h.filled),
    )

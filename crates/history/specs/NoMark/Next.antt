-- The next call has the same reply: no place of the record is one that the user may load from.
use Rattle.std.specs.Prelude.{◌≡◌, true, List, [], ℕ, ◌+◌}
use Rattle.std.proofs.Common.{subst, inl, inr, arith, ext_get_or}
use Rattle.kernel.specs.Definition.Tables.{row_of}
use Rattle.kernel.specs.Definition.Answers.{granted}
use Rattle.kernel.specs.Definition.Calls.{Call, «open», close, load}
use Rattle.history.specs.Definition.Runs.{State, after, event}
use Rattle.history.specs.Definition.NoMark.{InRecord, NoMark, LoadsLost, LeavesNoMarkNext}
use Rattle.history.specs.Bytes.Places.{apart-users}
use Rattle.history.specs.Bytes.Steps.{Sound}
use Rattle.history.specs.Bytes.UserBytes.{sound-loads}
use Rattle.history.specs.NoMark.Again.{leaves-no-mark}
use Rattle.history.specs.NoMark.Later.{leaves-no-mark-later}

-- a load takes none of the bytes that are lost
none-loaded : (s opened u : State) (channel n : ℕ) (output₁ : List ℕ) → Sound s → NoMark s opened channel n output₁ → (c : Call) (output : List ℕ) (j : ℕ)
    → ¬ LoadsLost (InRecord opened.tables channel) s.ram s u c output j
none-loaded s opened u channel n output₁ r m c output j l =
    let t = s.tables in
    let done : granted (event s (load l.segment l.offset l.size) output).answer ≡ true = subst (λ (x : Call). granted (event s x output).answer ≡ true) l.call l.done in
    let users = (sound-loads s r l.segment l.offset l.size output done j l.within).0 in
    let (p, e, o) = m.whose _ l.lost.place in
    apart-users t r.good (row_of t l.segment) (l.offset + j) users p o (omega arith)

pub leaves-no-mark-next : LeavesNoMarkNext
leaves-no-mark-next s good size channel driver n name output output₁ e c output₂ =
    let m = leaves-no-mark s good size channel driver n name output output₁ e in
    let a = leaves-no-mark-later s good size channel driver n name output output₁ e [] in
    let opened = after s («open» channel driver n name) output in
    let u = after opened (close channel) output₁ in
    let same : (event u c output₂).output ≡ (event s c output₂).output =
    ext_get_or 0 (event u c output₂).output (event s c output₂).output (a.lengths c output₂)
    (λ j h. elim (a.bytes c output₂ j) [
      | inl f ↦ f
      | inr l ↦ absurd (none-loaded s opened u channel n output₁ (record { good = good; size = size }) m c output₂ j l)
    ]) in
    rw (a.answer c output₂, same, a.moved c output₂)

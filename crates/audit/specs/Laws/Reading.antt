-- Reading the log in pieces changes nothing.
use Rattle.std.specs.Prelude.{◌≡◌, refl, List, [], ◌∷◌, ℕ}
use Rattle.std.proofs.Common.{sym, ◌∙◌, append_assoc, append-nil, inl, inr}
use Rattle.listing.specs.Laws.Reading.{joined}
use Rattle.audit.specs.Definition.Log.{Mark, first}
use Rattle.audit.specs.Definition.Pieces.{fed, Session, passes, fetched, failed, over}
use Rattle.audit.specs.Definition.Verdict.{Verdict, verdict_of}
use Rattle.audit.specs.Laws.Turns.{verdict-cut, verdict_at, walked, faulted}
use Rattle.audit.specs.Laws.Verdicts.{stopped}

ends_so : {m : Mark} {pieces : List (List ℕ)} {v : Verdict} → Session m pieces v → v ≡ verdict_at m (joined pieces)
ends_so {m} {pieces} (passes w s) = ends_so s ∙ sym (walked w (joined pieces))
ends_so {m} (fetched {piece = piece} {pieces = pieces} s) = rw (← append_assoc m.left piece (joined pieces)) (ends_so s)
ends_so {m} {pieces} (failed f) = rw f.number_is (sym (walked f.walks (joined pieces) ∙ faulted f.fault (joined pieces)))
ends_so {m} (over c) = rw (append-nil m.left) (sym (verdict-cut m.number m.state m.left c))

-- however the log is cut into pieces, the verdict is that on the whole log
pub any-pieces : (pieces : List (List ℕ)) (v : Verdict) → Session (first []) pieces v → v ≡ verdict_of (joined pieces)
unfolding verdict_of
any-pieces pieces v s = ends_so s

-- and every log that comes in pieces is audited to a verdict
audited : (pieces : List (List ℕ)) (m : Mark) → (v : Verdict) × Session m pieces v
audited [] m =
    let d = stopped m in
    elim d.stop [
      | inl c ↦ (_, passes d.walks (over c))
      | inr (word, w) ↦ (_, failed (record { at = d.at; walks = d.walks; number_is = refl; fault = w }))
    ]
audited (piece ∷ pieces) m = let (v, s) = audited pieces (fed m piece) in (v, fetched s)

pub some-session : (pieces : List (List ℕ)) → (v : Verdict) × Session (first []) pieces v
some-session pieces = audited pieces (first [])

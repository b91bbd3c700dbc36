-- The program's turns, one after the other, are a session of an audit in pieces, and their verdict is that on what is read.
use Rattle.std.specs.Prelude.{◌≡◌, refl, List, [], ◌∷◌, Bool, true, false, cond, eqb, ℕ, ◌-◌, length, drop, replicate, Ok, Err}
use Rattle.std.proofs.Common.{sym, ap, ◌∙◌, arith, length-append, length-drop, length-take-le}
use borrow.Author.Tests.{eqb-true}
use Rattle.files.specs.Definition.Outcomes.{Got, count_of}
use Rattle.listing.specs.Laws.Reading.{joined}
use Rattle.audit.specs.declared.Word.{Word}
use Rattle.audit.specs.Definition.Pieces.{StopsBy, Session, passes, fetched, failed, over}
use Rattle.audit.specs.Definition.Verdict.{Verdict, Fault, at_end, verdict_of}
use Rattle.audit.specs.Laws.Reading.{any-pieces}
use Rattle.exos_audit.specs.declared.Course.TheVariants.{Going, Over}
use Rattle.exos_audit.specs.declared.State.{State}
use Rattle.exos_audit.specs.Definition.Turns.{Held, in_hand, mark_of, course_of, Fetched, Follows, Turned, Turns, goes_on, is-over, is-faulted, begins}

-- at the input's end nothing came
nothing-came : (got : Got) → course_of got ≡ Over → count_of got ≡ 0
nothing-came (Ok n) e = go (eqb n 0) refl e
  where
    go : (b : Bool) → eqb n 0 ≡ b → cond b Over Going ≡ Over → n ≡ 0
    go true t e = eqb-true n 0 t
    go false t e = absurd (let z : ◌≡◌ {A = ℕ} 0 1 = cc in omega arith)
nothing-came (Err _) e = refl

module _ (s : State) (ram output buf : List ℕ) (r : State) (ram' output' buf' : List ℕ) (w : Turned s ram output buf r ram' output' buf') where
  module _ (e : w.judged.stop ≡ Ok tt) where
    stops : StopsBy (Ok tt) (mark_of s ram output buf) w.judged ram' output' (in_hand s buf)
    stops = rw e at w.stops

    -- more was read: with the piece that came, a session from where the turn leads is one from where it begins
    turn-session : {got : Got} (f : Fetched (drop w.judged.taken (in_hand s buf)) r buf' got) (pieces : List (List ℕ)) (v : Verdict)
        → Session (mark_of r ram' output' buf') pieces v → Session (mark_of s ram output buf) (f.piece ∷ pieces) v
    turn-session f pieces v x = passes stops.0 (fetched (rw (w.tables-are, w.due-is, w.number_is, f.hand) at x))

    -- the input is over: what the program says is the session's verdict
    over-session : r.course ≡ Over → Held r (length buf') → Session (mark_of s ram output buf) [] (at_end r.number r.due (r.filled - r.from))
    over-session c h =
        let (got, f) : Follows (Ok tt) (drop w.judged.taken (in_hand s buf)) r buf' = rw e at w.follows in
        let z : count_of got ≡ 0 = nothing-came got (sym f.course ∙ c) in
        let n : length (in_hand r buf') ≡ r.filled - r.from =
        length-take-le (r.filled - r.from) (drop r.from buf') (rw length-drop (omega (arith, h.order, h.filled))) in
        let k : length (drop w.judged.taken (in_hand s buf)) ≡ r.filled - r.from =
        omega (arith, ap length f.hand, length-append (drop w.judged.taken (in_hand s buf)) f.piece, f.came, z, n) in
        rw (w.due-is, w.number_is, ← k) (passes stops.0 (over stops.1))

  -- a record is at fault, whatever is still to be read
  fault-session : (word : Word) → w.judged.stop ≡ Err word → (pieces : List (List ℕ)) → Session (mark_of s ram output buf) pieces (Fault r.number word)
  fault-session word e pieces = rw w.number_is (failed (rw e at w.stops))

turns-session : {s : State} {ram output buf : List ℕ} {pieces : List (List ℕ)} {v : Verdict} → Turns s ram output buf pieces v → Session (mark_of s ram output buf) pieces v
turns-session (goes_on {pieces = pieces} {v = v} w e f x) = turn-session _ _ _ _ _ _ _ _ w e f pieces v (turns-session x)
turns-session (is-over w e h c) = over-session _ _ _ _ _ _ _ _ w e c h
turns-session (is-faulted {word = word} {pieces = pieces} w e) = fault-session _ _ _ _ _ _ _ _ w word e pieces

-- from where the program begins turns have the verdict on what is read, whatever stands in its buffer before
pub turns-verdict : (buf : List ℕ) (pieces : List (List ℕ)) (v : Verdict) → Turns begins (replicate 65536 0) (replicate 4090 0) buf pieces v → v ≡ verdict_of (joined pieces)
turns-verdict buf pieces v x = any-pieces pieces v (turns-session x)

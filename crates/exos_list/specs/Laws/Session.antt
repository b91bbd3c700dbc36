-- A turn of the program is a step of a session (listing's specs/Laws/Reading.antt), whose text is the listing of what is read.
use Rattle.std.specs.Prelude.{◌≡◌, refl, List, [], ◌∷◌, ◌++◌, ℕ, length, Ok}
use Rattle.std.proofs.Common.{arith}
use Rattle.files.specs.Definition.Outcomes.{Wrote}
use Rattle.listing.specs.declared.Stop.{Stop}
use Rattle.listing.specs.declared.Stop.TheVariants.{More, Bad}
use Rattle.listing.specs.Definition.Log.{ending}
use Rattle.listing.specs.Definition.Pieces.{Mark, begin, Drains}
use Rattle.listing.specs.Laws.Reading.{Session, drained, fetched, failed, over}
use Rattle.listing.proofs.Wholes.{stopped, carry-more, carry-full, carry-bad}
use Rattle.exos_list.specs.declared.State.{State}
use Rattle.exos_list.specs.Definition.Turns.{in_hand, Follows, unwritten, full, bad, read, Turned}

module _ (s : State) (ram out buf : List ℕ) (r : State) (ram' out' buf' text : List ℕ) where
  -- with the pieces that came, a session from where the turn leads is one from where it begins
  abbrev Leads : (lines : List ℕ) (came : List (List ℕ)) → Type 0
  Leads lines came =
      (pieces : List (List ℕ)) (more : List ℕ) → Session r.tables ram' out' (in_hand r buf') pieces more → Session s.tables ram out (in_hand s buf) (came ++ pieces) (lines ++ more)

  leads : (to : Mark) {wrote : Wrote} {stop : Stop} → Drains (length text) (begin s.tables ram out (in_hand s buf)) to stop → r.tables ≡ to.tables → ram' ≡ to.ram
      → out' ≡ to.output → Follows to.left r buf' wrote stop → wrote ≡ Ok tt → (stop ≡ Bad → ⊥) → (came : List (List ℕ)) × Leads to.text came
  leads to d t m o (unwritten e) w n = absurd (let z : ◌≡◌ {A = ℕ} 0 1 = cc in omega arith)
  leads to d t m o (full h e) w n = ([], λ pieces more x. drained (carry-full d) (rw (t, m, o, h) at x))
  leads to d t m o (bad e) w n = absurd (n refl)
  leads to d t m o (read f) w n = (f.piece ∷ [], λ pieces more x. drained (carry-more d) (fetched (rw (t, m, o, f.hand) at x)))

  module _ (w : Turned s ram out buf r ram' out' buf' text) where
    -- all lines are written, and the log is not bad
    pub turn-session : w.wrote ≡ Ok tt → (w.stop ≡ Bad → ⊥) → (came : List (List ℕ)) × Leads w.to.text came
    turn-session = leads w.to w.drains w.tables-are w.ram-is w.output-is w.follows

    -- the log is bad, whatever is still to be read
    pub bad-session : w.stop ≡ Bad → (pieces : List (List ℕ)) → Session s.tables ram out (in_hand s buf) pieces w.to.text
    bad-session e pieces = failed (carry-bad (rw e at w.drains))

    -- the input ends, with `finish` still to be written
    pub last-session : w.stop ≡ More → Session s.tables ram out (in_hand s buf) [] (w.to.text ++ ending (length w.to.left))
    last-session e = let d = rw e at w.drains in drained (carry-more d) (over (stopped d).0)

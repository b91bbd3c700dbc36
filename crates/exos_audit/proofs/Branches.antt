-- A turn, by why the records stopped.
use Rattle.std.proofs.Common.{◌≡◌, List, ℕ, ◌+◌, ◌-◌, ◌≤◌, ◌<◌, arith, length, take, drop, Ok}
use Rattle.events.specs.Laws.Front.{cut_short}
use Rattle.files.specs.Definition.Outcomes.{Got}
use Rattle.files.specs.Laws.Windows.{start-within, left-length, left-in-hand}
use Rattle.listing.specs.Definition.NoneOrGood.{NoneOrGood}
use Rattle.audit.specs.declared.Judged.{Judged}
use Rattle.audit.specs.Definition.Pieces.{Stops, StopsBy}
use Rattle.exos_audit.specs.declared.Course.{Course}
use Rattle.exos_audit.specs.declared.State.{State}
use Rattle.exos_audit.specs.Definition.Turns.{Held, in_hand, mark_of, Fetched, Turned}

module _ (s : State) (ram out buf : List ℕ) (j : Judged) (ram' out' : List ℕ) (stops : Stops (mark_of s ram out buf) j ram' out' (in_hand s buf)) where
  -- the state behind the records
  abbrev behind : Course → State
  behind course = record { tables = j.tables; due = j.due; number = j.number; from = s.from + j.taken; filled = s.filled; course = course }

  module _ (size : ℕ) (l : length buf ≡ size) (h : Held s size) (t : j.taken ≤ length (in_hand s buf)) where
    fits : s.filled ≤ length buf
    fits = omega (arith, l, h.filled)

    pub within : s.from + j.taken ≤ s.filled
    within = start-within buf s.from s.filled j.taken h.order fits t

    pub held : NoneOrGood j.tables → {course : Course} → Held (behind course) size
    held g = record { good = g; order = within; filled = h.filled }

    module _ (e : j.stop ≡ Ok tt) where
      -- less than a record is left, so that there is room behind it
      pub short : s.filled < s.from + j.taken + 4098
      short =
          let d : StopsBy (Ok tt) (mark_of s ram out buf) j ram' out' (in_hand s buf) = rw e at stops in
          omega (arith, cut_short (drop j.taken (in_hand s buf)) d.1, left-length buf s.from s.filled j.taken h.order fits)

      pub on-more : (r : State) (buf' : List ℕ) (got : Got) → r.tables ≡ j.tables → r.due ≡ j.due → r.number ≡ j.number
          → Fetched (take (s.filled - (s.from + j.taken)) (drop (s.from + j.taken) buf)) r buf' got → Turned s ram out buf r ram' out' buf'
      on-more r buf' got t d n f =
          record {
            judged = j;
            stops = stops;
            tables-are = t;
            due-is = d;
            number_is = n;
            follows = rw e (got, rw (left-in-hand buf s.from s.filled j.taken h.order fits within) at f);
          }

-- A turn, by what became of its write and by why the lines stopped.
use Rattle.std.proofs.Common.{◌≡◌, refl, List, ℕ, ◌+◌, ◌-◌, ◌≤◌, length, take, drop, length-take-le, Ok, Err}
use Rattle.files.specs.declared.Unwritten.{Unwritten}
use Rattle.files.specs.Definition.Outcomes.{Got, Wrote}
use Rattle.listing.specs.declared.Drained.{Drained}
use Rattle.listing.specs.declared.Failure.TheVariants.{BadLog}
use Rattle.listing.specs.declared.Stop.TheVariants.{More, Full, Bad}
use Rattle.listing.specs.Definition.NoneOrGood.{NoneOrGood}
use Rattle.listing.specs.Definition.Pieces.{begin, Drains, reached}
use Rattle.exos_list.specs.declared.Course.{Course}
use Rattle.exos_list.specs.declared.Course.TheVariants.{Going, Ended}
use Rattle.exos_list.specs.declared.State.{State}
use Rattle.exos_list.specs.Definition.Turns.{Held, in_hand, Fetched, Follows, failure_of, unwritten, full, bad, read, Turned}
use Rattle.files.specs.Laws.Windows.{start-within, left-in-hand}

module _ (s : State) (ram out buf : List ℕ) (d : Drained) (ram' out' text : List ℕ)
    (drains : Drains (length text) (begin s.tables ram out (in_hand s buf)) (reached d ram' out' (in_hand s buf) text) d.stop) (used : d.used ≤ length text) where
  -- the state behind the lines
  abbrev behind : Course → State
  behind course = record { tables = d.tables; from = s.from + d.taken; filled = s.filled; course = course }

  turned : (r : State) (buf' : List ℕ) (wrote : Wrote) → r.tables ≡ d.tables → Follows (drop d.taken (in_hand s buf)) r buf' wrote d.stop
      → Turned s ram out buf r ram' out' buf' text
  turned r buf' wrote t f = record {
    to = reached d ram' out' (in_hand s buf) text;
    stop = d.stop;
    wrote = wrote;
    drains = drains;
    tables-are = t;
    ram-is = refl;
    output-is = refl;
    written = rw (length-take-le d.used text used);
    follows = f;
  }

  pub on-unwritten : (why : Unwritten) → Turned s ram out buf (behind (Ended (failure_of why))) ram' out' buf text
  on-unwritten why = turned _ buf (Err why) refl (unwritten refl)

  pub on-bad : d.stop ≡ Bad → Turned s ram out buf (behind (Ended BadLog)) ram' out' buf text
  on-bad e = turned _ buf (Ok tt) refl (rw e (bad refl))

  module _ (o : s.from ≤ s.filled) (l : s.filled ≤ length buf) (k : s.from + d.taken ≤ s.filled) where
    pub on-full : d.stop ≡ Full → Turned s ram out buf (behind Going) ram' out' buf text
    on-full e = turned _ buf (Ok tt) refl (rw e (full (left-in-hand buf s.from s.filled d.taken o l k) refl))

    pub on-more : d.stop ≡ More → (r : State) (buf' : List ℕ) (got : Got) → r.tables ≡ d.tables
        → Fetched (take (s.filled - (s.from + d.taken)) (drop (s.from + d.taken) buf)) r buf' got → Turned s ram out buf r ram' out' buf' text
    on-more e r buf' got t f =
        turned r buf' (Ok tt) t (rw e (read (rw (left-in-hand buf s.from s.filled d.taken o l k) at f)))

-- the state behind the lines is held
pub held : (s : State) (buf : List ℕ) (size : ℕ) (d : Drained) → length buf ≡ size → NoneOrGood d.tables → Held s size → d.taken ≤ length (in_hand s buf) → {course : Course}
    → Held (record { tables = d.tables; from = s.from + d.taken; filled = s.filled; course = course }) size
held s buf size d e g h t = record { good = g; order = start-within buf s.from s.filled d.taken h.order (rw e h.filled) t; filled = h.filled }

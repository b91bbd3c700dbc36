-- What a turn of the auditing program leaves, for any outcome of its read.
use Rattle.std.specs.Prelude.{◌≡◌, Bool, true, false, cond, eqb, List, [], ◌∷◌, ◌++◌, ℕ, ◌-◌, ◌≤◌, length, take, drop, Ok, Err}
use Rattle.files.specs.Definition.Outcomes.{Got, count_of}
use Rattle.kernel.specs.Definition.Start.{no_tables}
use Rattle.listing.specs.Definition.NoneOrGood.{NoneOrGood}
use Rattle.audit.specs.declared.Due.TheVariants.{Start}
use Rattle.audit.specs.declared.Judged.{Judged}
use Rattle.audit.specs.declared.Word.{Word}
use Rattle.audit.specs.Definition.Log.{Mark, mark}
use Rattle.audit.specs.Definition.Pieces.{state_of, Stops}
use Rattle.audit.specs.Definition.Verdict.{Verdict, Fault, Found, at_end}
use Rattle.exos_audit.specs.declared.Course.{Course}
use Rattle.exos_audit.specs.declared.Course.TheVariants.{Going, Over, Broken, Faulted}
use Rattle.exos_audit.specs.declared.State.{State}

-- what holds between two turns, with a buffer of so many bytes
pub record Held (s : State) (size : ℕ) : Type 0 where
  pub good : NoneOrGood s.tables
  pub order : s.from ≤ s.filled
  pub filled : s.filled ≤ size

-- the bytes that are read and not yet judged, and the mark where the audit stands
abbrev pub in_hand : State → (buf : List ℕ) → List ℕ
in_hand s buf = take (s.filled - s.from) (drop s.from buf)

abbrev pub mark_of : State → (ram output buf : List ℕ) → Mark
mark_of s ram output buf = mark s.number (state_of s.due s.tables ram output) (in_hand s buf)

-- how the run goes on after a read
abbrev pub course_of : Got → Course
course_of (Ok n) = cond (eqb n 0) Over Going
course_of (Err failed) = Broken

abbrev pub is_going : Course → Bool
is_going Going = true
is_going Over = false
is_going Broken = false
is_going (Faulted word) = false

-- after a read: the bytes xs that were in hand stay, in their order, and the piece that came stands behind them
pub record Fetched (xs : List ℕ) (r : State) (buf : List ℕ) (got : Got) : Type 0 where
  pub piece : List ℕ
  pub came : length piece ≡ count_of got
  pub hand : in_hand r buf ≡ xs ++ piece
  pub course : r.course ≡ course_of got

-- after the records of the bytes in hand, of which xs is left: one is at fault, or more was read
abbrev pub Follows : Found → (xs : List ℕ) → State → (buf : List ℕ) → Type 0
Follows (Ok more) xs r buf = (got : Got) × Fetched xs r buf got
Follows (Err word) xs r buf = r.course ≡ Faulted word

-- a turn: what the records of the bytes in hand leave, and what follows
pub record Turned (s : State) (ram output buf : List ℕ) (r : State) (ram' output' buf' : List ℕ) : Type 0 where
  pub judged : Judged
  pub stops : Stops (mark_of s ram output buf) judged ram' output' (in_hand s buf)
  pub tables-are : r.tables ≡ judged.tables
  pub due-is : r.due ≡ judged.due
  pub number_is : r.number ≡ judged.number
  pub follows : Follows judged.stop (drop judged.taken (in_hand s buf)) r buf'

-- turns one after the other, each from where the one before led, with the pieces that come, and their verdict. They may end where the input is over, and end at a fault,
-- whatever would still come
pub data Turns : State → (ram output buf : List ℕ) → (pieces : List (List ℕ)) → Verdict → Type 0 where
  goes_on : {s r : State} {ram output buf ram' output' buf' : List ℕ} {pieces : List (List ℕ)} {v : Verdict} {got : Got}
      → (w : Turned s ram output buf r ram' output' buf') → w.judged.stop ≡ Ok tt → (f : Fetched (drop w.judged.taken (in_hand s buf)) r buf' got)
      → Turns r ram' output' buf' pieces v → Turns s ram output buf (f.piece ∷ pieces) v
  is-over : {s r : State} {ram output buf ram' output' buf' : List ℕ} → (w : Turned s ram output buf r ram' output' buf') → w.judged.stop ≡ Ok tt → Held r (length buf')
      → r.course ≡ Over → Turns s ram output buf [] (at_end r.number r.due (r.filled - r.from))
  is-faulted : {s r : State} {ram output buf ram' output' buf' : List ℕ} {word : Word} {pieces : List (List ℕ)} → (w : Turned s ram output buf r ram' output' buf')
      → w.judged.stop ≡ Err word → Turns s ram output buf pieces (Fault r.number word)

-- where the program begins
abbrev pub begins : State
begins = record { tables = no_tables; due = Start; number = 0; from = 0; filled = 0; course = Going }

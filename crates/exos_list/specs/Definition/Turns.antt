-- What a turn of the listing program leaves, for any outcome of its write and its read.
use Rattle.std.specs.Prelude.{◌≡◌, cond, eqb, List, ◌++◌, ℕ, ◌-◌, ◌≤◌, length, take, drop, Ok, Err}
use Rattle.files.specs.declared.Unwritten.{Unwritten}
use Rattle.files.specs.declared.Unwritten.TheVariants.{Failed, Closed}
use Rattle.files.specs.Definition.Outcomes.{Got, count_of, Wrote}
use Rattle.listing.specs.declared.Failure.{Failure}
use Rattle.listing.specs.declared.Failure.TheVariants.{BadLog, ReadFailed, WriteFailed, ReaderEnded}
use Rattle.listing.specs.declared.Stop.{Stop}
use Rattle.listing.specs.declared.Stop.TheVariants.{More, Full, Bad}
use Rattle.listing.specs.Definition.Ends.{End, end_of}
use Rattle.listing.specs.Definition.NoneOrGood.{NoneOrGood}
use Rattle.listing.specs.Definition.Pieces.{Mark, begin, Drains}
use Rattle.exos_list.specs.declared.Course.{Course}
use Rattle.exos_list.specs.declared.Course.TheVariants.{Going, Over, Ended}
use Rattle.exos_list.specs.declared.State.{State}

-- what holds between two turns, with a buffer of so many bytes
pub record Held (s : State) (size : ℕ) : Type 0 where
  pub good : NoneOrGood s.tables
  pub order : s.from ≤ s.filled
  pub filled : s.filled ≤ size

-- the bytes that are read and not yet listed
abbrev pub in_hand : State → (buf : List ℕ) → List ℕ
in_hand s buf = take (s.filled - s.from) (drop s.from buf)

-- how the run goes on after a read
abbrev pub course_of : Got → Course
course_of (Ok n) = cond (eqb n 0) Over Going
course_of (Err failed) = Ended ReadFailed

-- after a read: the bytes xs that were in hand stay, in their order, and the piece that came stands behind them
pub record Fetched (xs : List ℕ) (r : State) (buf : List ℕ) (got : Got) : Type 0 where
  pub piece : List ℕ
  pub came : length piece ≡ count_of got
  pub hand : in_hand r buf ≡ xs ++ piece
  pub course : r.course ≡ course_of got

-- what a write that is not done ends with: it failed, or its reader has ended
abbrev pub failure_of : Unwritten → Failure
failure_of (Failed n) = WriteFailed
failure_of (Closed n) = ReaderEnded

-- after the lines, of which xs is left: not all was written; or all was written, and the text was full, the log is bad, or more was read
pub data Follows (xs : List ℕ) (r : State) (buf : List ℕ) : Wrote → Stop → Type 0 where
  unwritten : {why : Unwritten} {stop : Stop} → r.course ≡ Ended (failure_of why) → Follows xs r buf (Err why) stop
  full : in_hand r buf ≡ xs → r.course ≡ Going → Follows xs r buf (Ok tt) Full
  bad : r.course ≡ Ended BadLog → Follows xs r buf (Ok tt) Bad
  read : {got : Got} → Fetched xs r buf got → Follows xs r buf (Ok tt) More

-- a turn: the lines of the bytes in hand, which are handed to the write at the front of the text, and what follows them
pub record Turned (s : State) (ram out buf : List ℕ) (r : State) (ram' out' buf' text : List ℕ) : Type 0 where
  pub to : Mark
  pub stop : Stop
  pub wrote : Wrote
  pub drains : Drains (length text) (begin s.tables ram out (in_hand s buf)) to stop
  pub tables-are : r.tables ≡ to.tables
  pub ram-is : ram' ≡ to.ram
  pub output-is : out' ≡ to.output
  pub written : take (length to.text) text ≡ to.text
  pub follows : Follows to.left r buf' wrote stop

-- the end after a write: what it would be, or why not all was written
abbrev pub end_after : Wrote → End → End
end_after (Ok done) end = end
end_after (Err why) end = Err (failure_of why)

-- the end that is told: where the input is over `bad` is still to be written, or nothing; where it is not over, not all was read
abbrev pub told : Course → (left : ℕ) → Wrote → End
told Going left wrote = Err ReadFailed
told Over left wrote = end_after wrote (end_of left)
told (Ended failure) left wrote = Err failure

-- A log that is read in pieces: what one record, and what the records of a piece, leave of it.
use Rattle.std.specs.Prelude.{◌≡◌, List, [], ◌∷◌, ◌++◌, ℕ, length, drop, Ok, Err}
use Rattle.kernel.specs.declared.Tables.{Tables}
use Rattle.events.specs.declared.NoRecord.TheVariants.{Cut}
use Rattle.events.specs.Definition.Records.{front_of}
use Rattle.audit.specs.declared.After.{After}
use Rattle.audit.specs.declared.Due.{Due}
use Rattle.audit.specs.declared.Judged.{Judged}
use Rattle.audit.specs.declared.Word.{Word}
use Rattle.audit.specs.Definition.Records.{State}
use Rattle.audit.specs.Definition.Log.{Mark, mark, Walks, Stands}
use Rattle.audit.specs.Definition.Verdict.{Verdict, Fault, Found, Next, goes, at_end}

abbrev pub state_of : Due → Tables → (ram output : List ℕ) → State
state_of due tables ram output = record { due = due; tables = tables; ram = ram; output = output }

-- what one record leaves, with RAM and output as they stand after it
abbrev pub leaves : After → (ram output : List ℕ) → Next
leaves r ram output = goes r.found (state_of r.due r.tables ram output)

-- as `FirstFault`, of a fault that stands whatever follows
pub record Faults (from : Mark) (number : ℕ) (word : Word) : Type 0 where
  pub at : Mark
  pub walks : Walks from at
  pub number_is : number ≡ at.number
  pub fault : Stands at word

-- the mark that an outcome stands for, with what is left of the input
abbrev pub reached : Judged → (ram output input : List ℕ) → Mark
reached r ram output input = mark r.number (state_of r.due r.tables ram output) (drop r.taken input)

-- why the records of a piece stop: less than a record is left, and every one before is right; or one is the first at fault
abbrev pub StopsBy : Found → Mark → Judged → (ram output input : List ℕ) → Type 0
StopsBy (Ok more) from r ram output input = Walks from (reached r ram output input) × (front_of (drop r.taken input) ≡ Err Cut)
StopsBy (Err word) from r ram output input = Faults from r.number word

abbrev pub Stops : Mark → Judged → (ram output input : List ℕ) → Type 0
Stops from r ram output input = StopsBy r.stop from r ram output input

-- a piece behind the bytes that are left
abbrev pub fed : Mark → (piece : List ℕ) → Mark
fed m piece = mark m.number m.state (m.left ++ piece)

-- an audit of a log that comes in pieces: it passes records that are right, takes the next piece, and ends at the first fault or where no piece is left
pub data Session : Mark → (pieces : List (List ℕ)) → Verdict → Type 0 where
  passes : {m to : Mark} {pieces : List (List ℕ)} {v : Verdict} → Walks m to → Session to pieces v → Session m pieces v
  fetched : {m : Mark} {piece : List ℕ} {pieces : List (List ℕ)} {v : Verdict} → Session (fed m piece) pieces v → Session m (piece ∷ pieces) v
  failed : {m : Mark} {pieces : List (List ℕ)} {number : ℕ} {word : Word} → Faults m number word → Session m pieces (Fault number word)
  over : {m : Mark} → front_of m.left ≡ Err Cut → Session m [] (at_end m.number m.state.due (length m.left))

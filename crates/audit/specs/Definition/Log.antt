-- A maker's log: which are accepted, and the first record at fault of any other.
use Rattle.std.specs.Prelude.{◌≡◌, List, [], ℕ, ◌+◌, Ok, Err}
use Rattle.events.specs.declared.NoRecord.TheVariants.{Cut, Bad}
use Rattle.events.specs.declared.Record.{Record}
use Rattle.events.specs.Definition.Records.{front_of, body_of, rest_of}
use Rattle.audit.specs.declared.Due.{Due}
use Rattle.audit.specs.declared.Due.TheVariants.{Start, Event, Reply as ReplyTo}
use Rattle.audit.specs.declared.Word.{Word}
use Rattle.audit.specs.declared.Word.TheVariants.{Start as StartWord, Cut as CutWord}
use Rattle.audit.specs.Definition.Records.{State, begins, IsStart, Right, Wrong}

-- how far an audit has come: the number of the next record, "events and replies counted together from 0", what is carried, and the bytes that are left
pub record Mark : Type 0 where
  pub number : ℕ
  pub state : State
  pub left : List ℕ

abbrev pub mark : (number : ℕ) → State → (left : List ℕ) → Mark
mark number s left = record { number = number; state = s; left = left }

abbrev pub first : (log : List ℕ) → Mark
first log = mark 0 begins log

-- every record from one mark to another is right
pub data Walks : Mark → Mark → Type 0 where
  stay : {m : Mark} → Walks m m
  pass : {m to : Mark} {r : Record} {s : State} → front_of m.left ≡ Ok r → Right m.state r.kind (body_of m.left r.size) s
      → Walks (mark (m.number + 1) s (rest_of m.left r.size)) to → Walks m to

-- "the logs that begin with an accepted start and whose every reply is the definition's": every record is right, up to an end where an event would be due
pub record Accepted (log : List ℕ) : Type 0 where
  pub end : Mark
  pub walks : Walks (first log) end
  pub over : end.left ≡ []
  pub due : end.state.due ≡ Event

-- "Without a whole accepted start, an empty log included, that is `0 start`.": the start that a log must begin with
abbrev pub Begins : (log : List ℕ) → Type 0
Begins log = (r : Record) × (front_of log ≡ Ok r) × IsStart begins r.kind (body_of log r.size)

-- the word where no whole record of a good length stands: `start` where the start is due, else "`cut` .. for a cut, ill-sized, missing .. record"
abbrev pub lacking_of : Due → Word
lacking_of Start = StartWord
lacking_of Event = CutWord
lacking_of (ReplyTo kind answer) = CutWord

-- what is at fault where the log stands, whatever follows: a bad length, or a whole record
pub data Stands (m : Mark) : Word → Type 0 where
  bad : front_of m.left ≡ Err Bad → Stands m (lacking_of m.state.due)
  whole : {r : Record} {word : Word} → front_of m.left ≡ Ok r → Wrong m.state r.kind (body_of m.left r.size) word → Stands m word

-- or where the log ends: the record that is due is cut or missing; not where none of it is there and an event is due, which is the end of the log
pub data AtFault (m : Mark) : Word → Type 0 where
  stands : {word : Word} → Stands m word → AtFault m word
  ends : front_of m.left ≡ Err Cut → ((m.left ≡ []) × (m.state.due ≡ Event) → ⊥) → AtFault m (lacking_of m.state.due)

-- "the first record at fault", "where no earlier one is at fault": every one before it is right
pub record FirstFault (from : Mark) (number : ℕ) (word : Word) : Type 0 where
  pub at : Mark
  pub walks : Walks from at
  pub number_is : number ≡ at.number
  pub fault : AtFault at word

-- The run of the definition over a buffer of event records: every whole record at its front, one after the other.
use Rattle.std.specs.Prelude.{List, [], ◌∷◌, ℕ, zero, suc, ◌+◌, length, Ok, Err}
use Rattle.kernel.specs.Definition.Answers.{gives}
use Rattle.kernel.specs.Definition.Step.{Result, result_of}
use Rattle.kernel.specs.declared.Tables.{Tables}
use Rattle.kernel.specs.declared.Answer.TheVariants.{Done}
use Rattle.events.specs.Definition.Records.{Front, front_of, body_of, rest_of, step_of}

pub record EventRecord : Type 0 where
  pub kind : ℕ
  pub body : List ℕ

-- the record at the front, and `more` for the rest; none where the buffer ends, the record is cut or its length is bad
unfoldable pub records_to : (more : List ℕ → List EventRecord) (xs : List ℕ) → Front → List EventRecord
records_to more xs (Err why) = []
records_to more xs (Ok r) = record { kind = r.kind; body = body_of xs r.size } ∷ more (rest_of xs r.size)

-- at most k records
unfoldable pub records_in : ℕ → List ℕ → List EventRecord
records_in zero xs = []
records_in (suc k) xs = records_to (records_in k) xs (front_of xs)

-- the records of a buffer; each takes four bytes, so that there are turns enough
unfoldable pub records : List ℕ → List EventRecord
records xs = records_in (length xs) xs

-- the bytes that they take
abbrev pub bytes_of : List EventRecord → ℕ
bytes_of [] = 0
bytes_of (r ∷ rs) = 4 + length r.body + bytes_of rs

-- a record on what the last one left
abbrev pub asked : Result → EventRecord → Result
asked m r = step_of m.tables m.ram r.kind r.body m.output

-- all of them, in their order
abbrev pub replayed : Result → List EventRecord → Result
replayed m [] = m
replayed m (r ∷ rs) = replayed (asked m r) rs

-- where a replay starts: these tables, this RAM, this output, and no answer yet
abbrev pub before : Tables → (ram output : List ℕ) → Result
before t ram output = result_of (gives (Done 0 0) t) ram output

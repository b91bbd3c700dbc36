-- How a run of the writing program ends, as some outcome of its reads and its write has it: no contract can name what is read or written. That what was read is answered
-- once, and the end told, is to be read in `run`, `answer` and `tell`.
use Rattle.std.specs.Prelude.{◌≡◌, List, ℕ, ◌+◌, ◌*◌, length, take, Result, Ok, Err}
use Rattle.files.specs.declared.Unread.{Unread}
use Rattle.files.specs.declared.Unread.TheVariants.{Full, Failed as Broken}
use Rattle.files.specs.declared.Unwritten.{Unwritten}
use Rattle.files.specs.declared.Unwritten.TheVariants.{Failed, Closed}
use Rattle.files.specs.Definition.Outcomes.{Fills}
use Rattle.writer.specs.declared.Refusal.{Refusal}
use Rattle.writer.specs.Definition.Writing.{reply_from}
use Rattle.exos_module.specs.declared.Failure.{Failure}
use Rattle.exos_module.specs.declared.Failure.TheVariants.{ReadFailed, TooMany, Refused, WriteFailed, ReaderEnded}

-- the buffer's bytes: a module may have one more than a load looks at (docs/DECISIONS.md, 64)
abbrev pub room : ℕ
room = 65536

-- the most items that are read: more give no module of so many bytes (specs/Laws/TooMany.antt)
abbrev pub most : ℕ
most = 104857

-- the bytes of the input's buffer: a start, the most items, and one to see that there is more
abbrev pub input_room : ℕ
input_room = 3 + 3 * most + 1

abbrev pub unwritten : Unwritten → Failure
unwritten (Failed n) = WriteFailed
unwritten (Closed n) = ReaderEnded

-- after a write of a module
abbrev pub end_after : Result Unit Unwritten → Result Unit Failure
end_after (Ok done) = Ok done
end_after (Err why) = Err (unwritten why)

-- by the writer's reply: a refusal is told whatever became of a write, for there is nothing to write
abbrev pub end_of : Result ℕ Refusal → Result Unit Unwritten → Result Unit Failure
end_of (Ok n) wrote = end_after wrote
end_of (Err refusal) wrote = Err (Refused refusal)

abbrev pub unread : Unread → Failure
unread Full = TooMany
unread Broken = ReadFailed

-- by what the reads told, with what they brought at the front of the input's buffer. More than the most items are too many before anything of them is judged
abbrev pub run_end : Result ℕ Unread → (input : List ℕ) → Result Unit Unwritten → Result Unit Failure
run_end (Ok n) input wrote = end_of (reply_from (take n input) room) wrote
run_end (Err why) input wrote = Err (unread why)

-- a run
pub record Ran (input : List ℕ) (end : Result Unit Failure) : Type 0 where
  pub filled : Result ℕ Unread
  pub wrote : Result Unit Unwritten
  pub fills : Fills (length input) filled
  pub end_is : end ≡ run_end filled input wrote

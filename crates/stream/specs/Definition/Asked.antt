-- What comes of a request's record, by the request's first byte.
use Rattle.std.specs.Prelude.{cond, List, ℕ, eqb, length, drop, Result, Ok, Err}
use Rattle.kernel.specs.Definition.Step as step
use Rattle.kernel.specs.declared.Tables.{Tables}
use Rattle.kernel.specs.declared.Answer.{Answer}
use Rattle.kernel.specs.declared.Answer.TheVariants.{Done, BadCall, BadRange, BadPage}
use Rattle.events.specs.Definition.Records.{u16_at, step_of}
use Rattle.writer.specs.Definition.Writing.{reply_from, buffer_from}
use Rattle.writer.specs.declared.Refusal.{Refusal}
use Rattle.writer.specs.declared.Refusal.TheVariants.{NoStart, NoList, Page, Range}

-- the writer's answer as a call's, a = 0 and b the bytes written, which are no more than the output's, whose length has two bytes; CALL where a record has no start, or is no list of
-- items behind it
abbrev pub reply_answer : Result ℕ Refusal → Answer
reply_answer (Ok n) = Done 0 n
reply_answer (Err Page) = BadPage
reply_answer (Err Range) = BadRange
reply_answer (Err NoStart) = BadCall
reply_answer (Err (NoList f)) = BadCall

-- a first byte 2 asks the writer, whose buffer is the output, and leaves tables and RAM; else the record is an event's (0 and 1: Requests.antt knows no other)
unfoldable pub asked_of : (first : ℕ) → Tables → (ram bytes output : List ℕ) → step.Result
asked_of first t ram bytes output =
    cond (eqb first 2)
    (record { answer = reply_answer (reply_from bytes (length output)); tables = t; ram = ram; output = buffer_from bytes output; moved = 0 })
    (step_of t ram (u16_at bytes 0) (drop 2 bytes) output)

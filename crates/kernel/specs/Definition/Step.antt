-- One step over all calls: from tables, RAM, a call and the lent output to the answer, the next tables, RAM and output, and the bytes moved.
use Rattle.std.specs.Prelude.{Bool, not, ◌&&◌, ◌||◌, List, [], ◌∷◌, ℕ, eqb, length}
use Rattle.kernel.specs.Definition.Tables.{ram_size}
use Rattle.kernel.specs.Definition.Good.{good_test}
use Rattle.kernel.specs.Definition.Bytes.{nothing, ram_after, moves_of, output_after}
use Rattle.kernel.specs.Definition.Answers.{gives, Decision, ◌changing◌, unless, ◌when◌}
use Rattle.kernel.specs.Definition.Calls.{Call, start, reset, «open», close, read, write, default, status, link, boundary, set-user-boundary, allocate, free, store, load, load-module, no_call, short-start, is_start, on_start, on_reset, on_open, on_close, on_read, on_write, on_default, on_status, on_link, on_boundary, on_set_user_boundary, on_allocate, on_free, on_store, on_load, on_load_module}
use Rattle.kernel.specs.declared.Tables.{Tables}
use Rattle.kernel.specs.declared.Answer.{Answer}
use Rattle.kernel.specs.declared.Answer.TheVariants.{BadTables, BadCall}
use Rattle.kernel.specs.declared.Outcome.{Outcome}

-- good tables, and a RAM of their length
abbrev pub ready_test : Tables → (ram : ℕ) → Bool
ready_test t ram = good_test t && eqb ram (ram_size t)

-- what a call that is heard decides
unfoldable pub heard : Tables → (ram output : ℕ) → Call → Decision
unfolding on_start on_reset on_open on_close on_read on_write on_default on_status on_link on_boundary on_set_user_boundary on_allocate on_free on_store on_load on_load_module
heard t ram output (start room list) = on_start t ram room list
heard t ram output (reset flags) = on_reset t flags
heard t ram output («open» channel driver n name) = on_open t channel driver n name
heard t ram output (close channel) = on_close t channel
heard t ram output (read channel offset asked) = on_read t output channel offset asked
heard t ram output (write channel offset bytes) = on_write t channel offset bytes
heard t ram output (default unit name) = on_default t unit name
heard t ram output status = on_status t output
heard t ram output (link m name) = on_link t m name
heard t ram output boundary = on_boundary t
heard t ram output (set-user-boundary value) = on_set_user_boundary t value
heard t ram output (allocate caller) = on_allocate t caller
heard t ram output (free caller segment) = on_free t caller segment
heard t ram output (store segment offset bytes) = on_store t segment offset bytes
heard t ram output (load segment offset size) = on_load t output segment offset size
heard t ram output (load-module segment page offset stream) = on_load_module t segment page offset stream
heard t ram output no_call = gives BadCall t changing nothing
heard t ram output short-start = gives BadCall t changing nothing

-- 1 TABLES: "not for start: tables not good, or RAM length wrong". What is decided depends on the lengths of RAM and output and on none of their bytes, so that
-- no heading is read back.
unfoldable pub decided : Tables → (ram output : ℕ) → Call → Decision
unfolding good_test heard
decided t ram output c = unless (BadTables when not (is_start c || ready_test t ram) ∷ []) t (heard t ram output c)

-- what a call leaves
pub record Result : Type 0 where
  pub answer : Answer
  pub tables : Tables
  pub ram : List ℕ
  pub output : List ℕ
  -- order 8: "Close and links of any sort report in a further value how many record bytes changed position or place"
  pub moved : ℕ

-- the answer, the tables and the bytes moved, with a RAM and an output
abbrev pub result_of : Outcome → (ram output : List ℕ) → Result
result_of o ram output = record { answer = o.answer; tables = o.tables; ram = ram; output = output; moved = o.moved }

-- what was decided, carried out on the bytes
unfoldable pub completed : Tables → Decision → (ram output : List ℕ) → Result
unfolding ram_after output_after moves_of
completed t d ram output = record {
  answer = d.answer;
  tables = d.tables;
  ram = ram_after t d.tables ram d.ram;
  output = output_after t ram d.output output;
  -- "The number equals the moves of a written step-by-step definition"
  moved = length (moves_of t d.tables d.ram);
}

unfoldable pub step : Tables → (ram : List ℕ) → Call → (output : List ℕ) → Result
unfolding decided completed
step t ram c output = completed t (decided t (length ram) (length output) c) ram output

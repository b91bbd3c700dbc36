-- Order 9 with the loader's call: what it accepts the writer makes, and what the writer makes it loads.
use Rattle.std.specs.Prelude.{◌≡◌, List, ℕ, ◌≤◌, ◌<◌, length, Ok}
use Rattle.modules.specs.Definition.Reading.{taken_of}
use Rattle.modules.specs.declared.Item.{Item}
use Rattle.writer.specs.Definition.Entries.{all, listed}
use Rattle.writer.specs.Definition.Bytes.{AllBytes}
use Rattle.writer.specs.Definition.Writing.{answer_to, buffer_after}
use Rattle.writer.specs.Definition.ReadBack.{WrittenAs}
use Rattle.rows.specs.Definition.Classes.{USER}
use Rattle.kernel.specs.Definition.Tables.{ram_size, class_at}
use Rattle.kernel.specs.Definition.Good.{Good}
use Rattle.kernel.specs.Definition.Calls.{load-module}
use Rattle.kernel.specs.Definition.Refusals.{InList}
use Rattle.kernel.specs.declared.Answer.TheVariants.{Done}
use Rattle.history.specs.Definition.Runs.{State, event}

-- "Every module the loader accepts is what the writer makes of its items, up to the end item": a load that is done used b bytes that the writer makes of the stream's items
abbrev pub LoadsAsWritten : Type 0
LoadsAsWritten =
    (s : State) → Good s.tables → length s.ram ≡ ram_size s.tables → (segment page offset : ℕ) (stream output : List ℕ) (b : ℕ) → AllBytes stream
    → (event s (load-module segment page offset stream) output).answer ≡ Done 0 b → WrittenAs stream page offset (taken_of stream).items b

-- the other way round: what the writer has written, at most 65,535 bytes, a load from the same start into a user segment answers as done with all of it used, whatever stands
-- behind it in the buffer. What it stores is the items' (`LoadsAsStores`)
abbrev pub WrittenLoads : Type 0
WrittenLoads =
    (s : State) → Good s.tables → length s.ram ≡ ram_size s.tables → (segment row : ℕ) → InList s.tables segment row → 0 < row → class_at s.tables row ≡ USER
    → (page offset : ℕ) (bytes buffer output : List ℕ) → AllBytes bytes → (items : List Item) → listed bytes ≡ all items → (n : ℕ) → n ≤ 65535
    → answer_to page offset items (length buffer) ≡ Ok n
    → (event s (load-module segment page offset (buffer_after page offset (listed bytes) buffer)) output).answer ≡ Done 0 n

-- What is handed to the write: the module of an input, or nothing.
use Rattle.std.specs.Prelude.{List, [], ◌∷◌, ℕ, ◌+◌, ◌*◌, Result, Ok, Err}
use Rattle.modules.specs.declared.Item.{Item}
use Rattle.writer.specs.declared.Refusal.{Refusal}
use Rattle.writer.specs.Definition.Entries.{Listed, all, flawed, listed}
use Rattle.writer.specs.Definition.Bytes.{module_of}
use Rattle.writer.specs.Definition.Writing.{answer_to}

abbrev pub module_by : Result ℕ Refusal → List Item → List ℕ
module_by (Ok n) items = module_of items
module_by (Err refusal) items = []

abbrev pub module_to : (page offset : ℕ) → Listed → (room : ℕ) → List ℕ
module_to page offset (all items) room = module_by (answer_to page offset items room) items
module_to page offset (flawed f) room = []

-- a start page in one byte, a start offset in two, the low one first, then the items
abbrev pub module_from : (input : List ℕ) (room : ℕ) → List ℕ
module_from (page ∷ low ∷ high ∷ items) room = module_to page (low + 256 * high) (listed items) room
module_from (page ∷ low ∷ []) room = []
module_from (page ∷ []) room = []
module_from [] room = []

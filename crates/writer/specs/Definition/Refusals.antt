-- What the writer refuses, as propositions. That `answer_to` gives 20 and 13 exactly then is proved in Laws.
use Rattle.std.specs.Prelude.{ℕ, ◌<◌, List, ◌∷◌, length}
use Rattle.modules.specs.Definition.Counter.{page_size, counter, after}
use Rattle.modules.specs.Definition.Faults.{Outside}
use Rattle.modules.specs.declared.Item.{Item}
use Rattle.modules.specs.declared.Item.TheVariants.{SetPage}
use Rattle.modules.specs.declared.Counter.{Counter}
use Rattle.writer.specs.Definition.Bytes.{module_of}

-- an item of the list is refused; `start` is the start page
pub data ItemRefused (start : ℕ) : Counter → List Item → Type 0 where
  -- "a page number above 3"
  page-above : {c : Counter} {page : ℕ} {items : List Item} → 3 < page → ItemRefused start c (SetPage page ∷ items)
  -- "items the loader's page rule would refuse"
  outside : {c : Counter} {i : Item} {items : List Item} → Outside c i → ItemRefused start c (i ∷ items)
  behind : {c : Counter} {i : Item} {items : List Item} → ItemRefused start (after start c i) items → ItemRefused start c (i ∷ items)

-- 20 PAGE
pub data PageRefused (page offset : ℕ) (items : List Item) : Type 0 where
  -- "or a start outside kind 30's range"
  start-page : 3 < page → PageRefused page offset items
  start-offset : page_size < offset → PageRefused page offset items
  item : ItemRefused page (counter page offset) items → PageRefused page offset items

-- 13 RANGE: "then RANGE for a short buffer"
pub record RangeRefused (page offset : ℕ) (items : List Item) (room : ℕ) : Type 0 where
  pub then : ¬ PageRefused page offset items
  pub short : room < length (module_of items)

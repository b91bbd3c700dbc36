-- What is said of writer and reader together: "Reading back gives the same items. Every module the loader accepts is what the writer makes of its items, up to the end item."
use Rattle.std.specs.Prelude.{◌≡◌, List, ◌↔◌, ℕ, ◌≤◌, ◌<◌, length, take, Ok}
use Rattle.modules.specs.Definition.Bits.{bits_in}
use Rattle.modules.specs.Definition.Items.{AllFit, IsModule}
use Rattle.modules.specs.Definition.Reading.{taken_in, taken_of}
use Rattle.modules.specs.Definition.Counter.{Counts, page_size, counter}
use Rattle.modules.specs.Definition.Judging.{judged}
use Rattle.modules.specs.declared.Item.{Item}
use Rattle.modules.specs.declared.Target.{Target}
use Rattle.writer.specs.Definition.Entries.{list_bytes, all, listed}
use Rattle.writer.specs.Definition.Bytes.{module_of, AllBytes}
use Rattle.writer.specs.Definition.Writing.{answer_to, buffer_after}

-- n bytes of a stream are a module of these items, with the end item and zero padding, and of no others; a reading of all of it gives the items back. Up to 65,535 bytes, at
-- which the loader looks, so does the loader's reading, and the loader accepts the module from the start in a segment with no guard, of which the user may store in the
-- whole page. A longer module no load takes (docs/DECISIONS.md, 64)
pub record ReadAs (stream : List ℕ) (page offset : ℕ) (items : List Item) (n : ℕ) : Type 0 where
  pub are : IsModule stream items n
  pub no-others : (others : List Item) (m : ℕ) → IsModule stream others m → (others ≡ items) × (m ≡ n)
  pub read : (taken_in (length (bits_in stream)) (bits_in stream)).items ≡ items
  pub loader : n ≤ 65535 → (taken_of stream).items ≡ items
  pub accepted : n ≤ 65535 → (g : Target) → 0 < g.row → page_size ≤ g.reach → g.page ≡ page → judged g (counter page offset) stream ≡ Ok n

-- "Reading back gives the same items": of every list that the writer takes
abbrev pub ReadsBack : Type 0
ReadsBack =
    (page offset : ℕ) (bytes buffer : List ℕ) → AllBytes bytes → (items : List Item) → listed bytes ≡ all items → (n : ℕ)
    → answer_to page offset items (length buffer) ≡ Ok n → ReadAs (buffer_after page offset (listed bytes) buffer) page offset items n

-- the first b bytes of a stream are what the writer makes of these items; they can be given to it, and it takes them from this start
pub record WrittenAs (stream : List ℕ) (page offset : ℕ) (items : List Item) (b : ℕ) : Type 0 where
  pub small : AllBytes (list_bytes items)
  pub given : listed (list_bytes items) ≡ all items
  pub bytes : take b stream ≡ module_of items
  pub takes : (room : ℕ) → b ≤ room → answer_to page offset items room ≡ Ok b

-- "Every module the loader accepts is what the writer makes of its items, up to the end item", its padding and all
abbrev pub AcceptedAsWritten : Type 0
AcceptedAsWritten =
    (g : Target) (offset : ℕ) (stream : List ℕ) (b : ℕ) → AllBytes stream → Counts (counter g.page offset)
    → judged g (counter g.page offset) stream ≡ Ok b → WrittenAs stream g.page offset (taken_of stream).items b

-- so writer and reader are one-to-one on what they accept: of items that fit, whose module the loader looks at whole, the writer takes exactly those whose module the loader
-- accepts from the same start, in a segment as above; and two such lists have two modules
pub record OneToOne : Type 0 where
  pub same : (g : Target) → 0 < g.row → page_size ≤ g.reach → (offset : ℕ) → Counts (counter g.page offset) → (items : List Item) → AllFit items
      → length (module_of items) ≤ 65535 → (n : ℕ) → (answer_to g.page offset items n ≡ Ok n) ↔ (judged g (counter g.page offset) (module_of items) ≡ Ok n)
  pub once : (items others : List Item) → AllFit items → AllFit others → module_of items ≡ module_of others → items ≡ others

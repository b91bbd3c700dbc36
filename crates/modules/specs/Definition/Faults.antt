-- What a stream is refused for, as propositions over its bits: the items before the one at fault stand there and are without fault.
-- That `judged` (Judging.antt) gives exactly these is proved in Laws.
use Rattle.std.specs.Prelude.{◌≡◌, ℕ, ◌+◌, ◌/◌, ◌%◌, ◌<◌, ◌≤◌, ◌≢◌, List, [], ◌∷◌, ◌++◌, length, slice_index_or}
use Rattle.line.specs.Definition.Guard.{GuardedByte}
use Rattle.modules.specs.Definition.Bits.{Bit, O, I}
use Rattle.modules.specs.Definition.Items.{item_bits, end_bits, illegal_bits, Fits}
use Rattle.modules.specs.Definition.Counter.{page_size, landing, size_of, after}
use Rattle.modules.specs.declared.Item.{Item}
use Rattle.modules.specs.declared.Item.TheVariants.{Move}
use Rattle.modules.specs.declared.Counter.{Counter}
use Rattle.modules.specs.declared.Target.{Target}
use Rattle.modules.specs.declared.Refusal.{Refusal}
use Rattle.modules.specs.declared.Refusal.TheVariants.{Module, Page, Range, Guard}

-- "input that runs out": no whole item stands first
pub record RunsOut (bits : List Bit) : Type 0 where
  pub no_item : (i : Item) (rest : List Bit) → Fits i → bits ≢ item_bits i ++ rest
  pub no_end : (rest : List Bit) → bits ≢ end_bits ++ rest
  pub no-illegal : (rest : List Bit) → bits ≢ illegal_bits ++ rest

-- "bad padding": a bit behind the end item, in its last byte, is not zero; `rest` is what stands behind it, and a stream is whole bytes
abbrev pub BadPadding : List Bit → Type 0
BadPadding rest = (k : ℕ) × (k < length rest % 8) × (slice_index_or rest k O ≡ I)

-- 20 PAGE "for a move or store outside the page": a byte of a store lies at 16,384 or above, or a move lands in another page
pub data Outside (c : Counter) : Item → Type 0 where
  store : {i : Item} → 0 < size_of i → page_size < c.offset + size_of i → Outside c i
  move : {x : ℕ} → landing c x / page_size ≢ c.page → Outside c (Move x)

-- "then RANGE above the user boundary"
pub record Above (g : Target) (c : Counter) (i : Item) : Type 0 where
  pub stores : 0 < size_of i
  pub end : g.reach < c.offset + size_of i

-- "GUARD": a store touches a guarded byte of page zero
pub record Touches (g : Target) (c : Counter) (i : Item) : Type 0 where
  pub zero : g.row ≡ 0
  pub byte : ℕ
  pub from : c.offset ≤ byte
  pub to : byte < c.offset + size_of i
  pub guarded : GuardedByte byte

-- an item without fault
pub record Faultless (g : Target) (c : Counter) (i : Item) : Type 0 where
  pub inside : ¬ Outside c i
  pub below : ¬ Above g c i
  pub clear : ¬ Touches g c i

-- items without fault, each from the counter that those before it leave
abbrev pub FaultlessFrom : Target → Counter → List Item → Type 0
FaultlessFrom g c [] = Unit {0}
FaultlessFrom g c (i ∷ items) = Faultless g c i × FaultlessFrom g (after g.page c i) items

-- the bits begin with the bits of an item; `rest` is what stands behind it
pub record Begins (bits : List Bit) (i : Item) (rest : List Bit) : Type 0 where
  pub fits : Fits i
  pub are : bits ≡ item_bits i ++ rest

-- the bits are refused, from this counter on: "The first item at fault decides; at one item that order."
pub data Refused (g : Target) : Counter → List Bit → Refusal → Type 0 where
  -- 19 MODULE "for an illegal item, input that runs out or bad padding"
  illegal : {c : Counter} {bits : List Bit} (rest : List Bit) → bits ≡ illegal_bits ++ rest → Refused g c bits Module
  runs-out : {c : Counter} {bits : List Bit} → RunsOut bits → Refused g c bits Module
  padding : {c : Counter} {bits : List Bit} (rest : List Bit) → bits ≡ end_bits ++ rest → BadPadding rest → Refused g c bits Module
  page : {c : Counter} {bits : List Bit} {i : Item} {rest : List Bit} → Begins bits i rest → Outside c i → Refused g c bits Page
  range : {c : Counter} {bits : List Bit} {i : Item} {rest : List Bit} → Begins bits i rest → ¬ Outside c i → Above g c i → Refused g c bits Range
  guard : {c : Counter} {bits : List Bit} {i : Item} {rest : List Bit} → Begins bits i rest → ¬ Outside c i → ¬ Above g c i → Touches g c i
      → Refused g c bits Guard
  -- an item without fault stands first
  behind : {c : Counter} {bits : List Bit} {i : Item} {rest : List Bit} {f : Refusal} → Begins bits i rest → Faultless g c i → Refused g (after g.page c i) rest f
      → Refused g c bits f

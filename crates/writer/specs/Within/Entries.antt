-- A list of items three bytes at a time, and all of it as items.
use Rattle.std.specs.Prelude.{List, [], ◌∷◌, ℕ, ◌+◌, ◌*◌, Result, Ok, Err}
use Rattle.modules.specs.declared.Item.{Item}
use Rattle.modules.specs.declared.Item.TheVariants.{Restore}
use Rattle.writer.specs.Definition.Entries.{entry_of, Listed, all, flawed}
use Rattle.writer.specs.declared.Why.{Why}
use Rattle.writer.specs.declared.Why.TheVariants.{Cut}
use Rattle.writer.specs.declared.Flaw.{Flaw}

-- what bytes are, which are three or what is left at the end of a list
abbrev pub entry_in : (bytes : List ℕ) → Result Item Why
entry_in (tag ∷ low ∷ high ∷ []) = entry_of tag (low + 256 * high)
entry_in _ = Err Cut

-- a restore where an entry is no item
abbrev pub item_or : Result Item Why → Item
item_or (Ok i) = i
item_or (Err why) = Restore

abbrev pub item_in : (bytes : List ℕ) → Item
item_in bytes = item_or (entry_in bytes)

-- the items of a list of them
unfoldable pub items_of : (bytes : List ℕ) → List Item
unfolding entry_of
items_of [] = []
items_of (tag ∷ low ∷ high ∷ bytes) = item_in (tag ∷ low ∷ high ∷ []) ∷ items_of bytes
items_of (tag ∷ []) = []
items_of (tag ∷ low ∷ []) = []

-- the same, and a restore for one byte or two that are left over
unfoldable pub items_and_left_over : (bytes : List ℕ) → List Item
unfolding entry_of
items_and_left_over [] = []
items_and_left_over (tag ∷ low ∷ high ∷ bytes) = item_in (tag ∷ low ∷ high ∷ []) ∷ items_and_left_over bytes
items_and_left_over (tag ∷ []) = Restore ∷ []
items_and_left_over (tag ∷ low ∷ []) = Restore ∷ []

-- what is found of a list
abbrev pub found_in : Listed → Result Unit Flaw
found_in (all items) = Ok tt
found_in (flawed f) = Err f

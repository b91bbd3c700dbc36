-- A list of items as bytes: three an item, a tag and a value of two bytes, the low one first. What bytes are no such list.
use Rattle.std.specs.Prelude.{cond, List, [], ◌∷◌, ◌++◌, ℕ, ◌+◌, ◌*◌, ◌/◌, ◌%◌, ltb, eqb, Result, Ok, Err}
use Rattle.modules.specs.declared.Item.{Item}
use Rattle.modules.specs.declared.Item.TheVariants.{Byte, Word, SetPage, Restore, Move}
use Rattle.writer.specs.declared.Why.{Why}
use Rattle.writer.specs.declared.Why.TheVariants.{Cut, Tag, AboveByte, Valued}
use Rattle.writer.specs.declared.Flaw.{Flaw}

-- order 9: "(byte, word, set page, restore, move)", in this order from tag 0 on. A byte's value is below 256, a restore has none; a page above 3 is an item, which the
-- writer refuses
unfoldable pub entry_of : (tag value : ℕ) → Result Item Why
entry_of tag value =
    cond (eqb tag 0) (cond (ltb 255 value) (Err AboveByte) (Ok (Byte value)))
    (cond (eqb tag 1) (Ok (Word value))
    (cond (eqb tag 2) (Ok (SetPage value))
    (cond (eqb tag 3) (cond (eqb value 0) (Ok Restore) (Err Valued))
    (cond (eqb tag 4) (Ok (Move value)) (Err Tag)))))

abbrev pub flaw_at : (number : ℕ) → Why → Flaw
flaw_at number why = record { number = number; why = why }

-- the three bytes of an item
abbrev pub entry_bytes : Item → List ℕ
entry_bytes (Byte x) = 0 ∷ x % 256 ∷ x / 256 ∷ []
entry_bytes (Word x) = 1 ∷ x % 256 ∷ x / 256 ∷ []
entry_bytes (SetPage page) = 2 ∷ page % 256 ∷ page / 256 ∷ []
entry_bytes Restore = 3 ∷ 0 ∷ 0 ∷ []
entry_bytes (Move x) = 4 ∷ x % 256 ∷ x / 256 ∷ []

abbrev pub list_bytes : List Item → List ℕ
list_bytes [] = []
list_bytes (i ∷ items) = entry_bytes i ++ list_bytes items

-- all items, or the first that is none
pub data Listed : Type 0 where
  all : List Item → Listed
  flawed : Flaw → Listed

-- an entry, and what stands behind it; numbers are from 1
abbrev pub before : Result Item Why → Listed → Listed
before (Ok i) (all items) = all (i ∷ items)
before (Ok i) (flawed f) = flawed (flaw_at (f.number + 1) f.why)
before (Err why) more = flawed (flaw_at 1 why)

unfoldable pub listed : (bytes : List ℕ) → Listed
unfolding entry_of
listed [] = all []
listed (tag ∷ low ∷ high ∷ bytes) = before (entry_of tag (low + 256 * high)) (listed bytes)
listed (tag ∷ []) = flawed (flaw_at 1 Cut)
listed (tag ∷ low ∷ []) = flawed (flaw_at 1 Cut)

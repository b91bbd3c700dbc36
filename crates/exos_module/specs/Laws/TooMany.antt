-- An input of more than the most items has no module that the buffer has room for: where it is told that there are too many, no module is lost.
use Rattle.std.specs.Prelude.{◌≡◌, refl, Bool, true, false, cond, List, [], ◌∷◌, ℕ, ◌+◌, ◌*◌, ◌<◌, ◌≤◌, length, Result, Ok, Err}
use Rattle.std.proofs.Common.{arith, lt-ltb, length-append}
use Rattle.modules.specs.Definition.Items.{item_bits, all_bits}
use Rattle.modules.specs.declared.Item.{Item}
use Rattle.modules.specs.declared.Item.TheVariants.{Byte, Word, SetPage, Restore, Move}
use Rattle.writer.specs.declared.Why.{Why}
use Rattle.writer.specs.declared.Refusal.TheVariants.{Page, Range}
use Rattle.writer.specs.Definition.Bytes.{module_of}
use Rattle.writer.specs.Definition.Entries.{entry_of, Listed, all, flawed, before, listed}
use Rattle.writer.specs.Definition.Writing.{refuses_page, answer_to}
use Rattle.writer.specs.Laws.Bytes.{module-size}
use Rattle.writer.specs.Laws.Numbers.{item-width}
use Rattle.writer.specs.Within.Codes.{width_of}
use Rattle.exos_module.specs.Definition.Ends.{room, most}
use Rattle.exos_module.specs.Definition.Handed.{module_by, module_to, module_from}

-- each item has five bits at least
five : (i : Item) → 5 ≤ width_of i
five (Byte x) = omega arith
five (Word x) = omega arith
five (SetPage page) = omega arith
five Restore = omega arith
five (Move x) = omega arith

bits : (items : List Item) → 5 * length items ≤ length (all_bits items)
bits [] = omega arith
bits (i ∷ items) = omega (arith, length-append (item_bits i) (all_bits items), item-width i, five i, bits items)

pub too_many : (items : List Item) → most < length items → room < length (module_of items)
too_many items h = omega (arith, module-size items, bits items)

-- and three bytes
abbrev Counted : Listed → (n : ℕ) → Type 0
Counted (all items) n = n ≡ 3 * length items
Counted (flawed f) n = Unit {0}

one_more : (entry : Result Item Why) (l : Listed) (n : ℕ) → Counted l n → Counted (before entry l) (n + 3)
one_more (Ok i) (all items) n c = omega (arith, c)
one_more (Ok i) (flawed f) n c = tt
one_more (Err why) l n c = tt

counted : (bytes : List ℕ) → Counted (listed bytes) (length bytes)
unfolding listed
counted [] = refl
counted (tag ∷ low ∷ high ∷ bytes) =
    let e : length bytes + 3 ≡ length (tag ∷ low ∷ high ∷ bytes) = omega arith in
    rw (← e) (one_more (entry_of tag (low + 256 * high)) (listed bytes) (length bytes) (counted bytes))
counted (tag ∷ []) = tt
counted (tag ∷ low ∷ []) = tt

none : (page offset : ℕ) (l : Listed) (n : ℕ) → Counted l n → 3 * most < n → module_to page offset l room ≡ []
unfolding answer_to
none page offset (all items) n c h =
    let s = lt-ltb room (length (module_of items)) (too_many items (omega (arith, c))) in
    rw s (go (refuses_page page offset items))
  where
    go : (p : Bool) → module_by (cond p (Err Page) (Err Range)) items ≡ []
    go true = refl
    go false = refl
none page offset (flawed f) n c h = refl

pub too_long : (input : List ℕ) → 3 + 3 * most < length input → module_from input room ≡ []
too_long (page ∷ low ∷ high ∷ bytes) h = none page (low + 256 * high) (listed bytes) (length bytes) (counted bytes) (omega arith)
too_long (page ∷ low ∷ []) h = refl
too_long (page ∷ []) h = refl
too_long [] h = refl

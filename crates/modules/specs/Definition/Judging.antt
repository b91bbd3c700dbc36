-- What a stream is refused for, computed: "The first item at fault decides; at one item that order."
use Rattle.std.specs.Prelude.{ℕ, ◌+◌, ◌-◌, ◌/◌, ◌%◌, Bool, true, false, cond, not, ◌&&◌, ◌||◌, List, [], ◌∷◌, length, take, ◌==◌, nat_lt, Result, Ok, Err}
use Rattle.line.specs.Definition.Guard.{guarded}
use Rattle.modules.specs.Definition.Bits.{Bit, O, I}
use Rattle.modules.specs.Definition.Reading.{Break, end, illegal-item, end-of-input, looked_at, taken_of}
use Rattle.modules.specs.Definition.Counter.{page_size, counter, landing, size_of, after, Put, puts_of}
use Rattle.modules.specs.declared.Item.{Item}
use Rattle.modules.specs.declared.Item.TheVariants.{Byte, Word, SetPage, Restore, Move}
use Rattle.modules.specs.declared.Counter.{Counter}
use Rattle.modules.specs.declared.Target.{Target}
use Rattle.modules.specs.declared.Refusal.{Refusal}
use Rattle.modules.specs.declared.Refusal.TheVariants.{Module, Page, Range, Guard}

-- "a move .. must land in the same page"
abbrev pub leaves : Counter → Item → Bool
leaves c (Byte x) = false
leaves c (Word x) = false
leaves c (SetPage page) = false
leaves c Restore = false
leaves c (Move x) = not (landing c x / page_size == c.page)

-- 20 PAGE "for a move or store outside the page"
abbrev pub outside : Counter → Item → Bool
outside c i = leaves c i || (nat_lt 0 (size_of i) && nat_lt page_size (c.offset + size_of i))

-- "then RANGE above the user boundary": a store alone
abbrev pub above : Target → Counter → Item → Bool
above g c i = nat_lt 0 (size_of i) && nat_lt g.reach (c.offset + size_of i)

-- "GUARD"
abbrev pub touches : Target → Counter → Item → Bool
touches g c i = guarded g.row c.offset (size_of i)

-- "at one item that order"; `else` where the item is without fault
abbrev pub fault_or : Target → Counter → Item → Result ℕ Refusal → Result ℕ Refusal
fault_or g c i else = cond (outside c i) (Err Page) (cond (above g c i) (Err Range) (cond (touches g c i) (Err Guard) else))

-- "The first item at fault decides"; `else`, what is said of what broke off the reading, where none is
unfoldable pub judged_or : Target → Counter → List Item → Result ℕ Refusal → Result ℕ Refusal
judged_or g c [] else = else
judged_or g c (i ∷ items) else = fault_or g c i (judged_or g (after g.page c i) items else)

-- "Padding must be zero"
abbrev pub zeros : List Bit → Bool
zeros [] = true
zeros (O ∷ bits) = zeros bits
zeros (I ∷ bits) = false

-- what broke off the reading: 19 MODULE "for an illegal item, input that runs out or bad padding". A stream is whole bytes, here `n`, so that what is left of the
-- end item's last byte, its padding, is what is left of `rest` over whole bytes; and "b is the bytes used", up to there
abbrev pub judged_at : (n : ℕ) → Break → Result ℕ Refusal
judged_at n (end rest) = cond (zeros (take (length rest % 8) rest)) (Ok (n - length rest / 8)) (Err Module)
judged_at n illegal-item = Err Module
judged_at n end-of-input = Err Module

-- of a whole stream
unfoldable pub judged : Target → Counter → (stream : List ℕ) → Result ℕ Refusal
unfolding judged_or
judged g c stream = judged_or g c (taken_of stream).items (judged_at (length (looked_at stream)) (taken_of stream).break)

-- what a load of it puts, in order, from its start page and offset
abbrev pub puts_in : (page offset : ℕ) (stream : List ℕ) → List Put
puts_in page offset stream = puts_of page (counter page offset) (taken_of stream).items

-- the number of what a stream is refused for, and 0 for a whole module
abbrev pub refusal_of : Result ℕ Refusal → ℕ
refusal_of (Ok b) = 0
refusal_of (Err Module) = 19
refusal_of (Err Page) = 20
refusal_of (Err Range) = 13
refusal_of (Err Guard) = 14

-- "b is the bytes used"
abbrev pub used_of : Result ℕ Refusal → ℕ
used_of (Ok b) = b
used_of (Err Module) = 0
used_of (Err Page) = 0
used_of (Err Range) = 0
used_of (Err Guard) = 0

-- The location counter, and what an item makes of it and stores at it.
use Rattle.std.specs.Prelude.{ℕ, ◌+◌, ◌*◌, ◌/◌, ◌%◌, ◌≤◌, Bool, ◌||◌, List, [], ◌∷◌, ◌++◌, nat_lt}
use Rattle.line.specs.Definition.Ram.{put_at}
use Rattle.modules.specs.declared.Item.{Item}
use Rattle.modules.specs.declared.Item.TheVariants.{Byte, Word, SetPage, Restore, Move}
use Rattle.modules.specs.declared.Counter.{Counter}

-- a page has 16,384 bytes
abbrev pub page_size : ℕ
page_size = 16384

-- "The counter is a page (0 to 3) and an offset, 0 to 16,384 (past the end)"
pub record Counts (c : Counter) : Type 0 where
  pub page : c.page ≤ 3
  pub offset : c.offset ≤ page_size

-- "a start page or offset past its range"
abbrev pub past_range : (page offset : ℕ) → Bool
past_range page offset = nat_lt 3 page || nat_lt page_size offset

abbrev pub counter : (page offset : ℕ) → Counter
counter page offset = record { page = page; offset = offset }

-- "its value is page times 16,384 plus offset, carry dropped"
abbrev pub value_of : Counter → ℕ
value_of c = (c.page * page_size + c.offset) % 65536

-- "relocation adds the location counter and drops any carry out of 16 bits"
abbrev pub relocated : Counter → (word : ℕ) → ℕ
relocated c word = (word + value_of c) % 65536

-- "A move adds 16 bits likewise": the address where it lands
abbrev pub landing : Counter → (x : ℕ) → ℕ
landing c x = (value_of c + x) % 65536

-- how many bytes an item stores
abbrev pub size_of : Item → ℕ
size_of (Byte x) = 1
size_of (Word x) = 2
size_of (SetPage page) = 0
size_of Restore = 0
size_of (Move x) = 0

-- the counter after an item; `start` is the start page. 001, 10.3.1 and 10.3.2: a byte and "the location counter incremented by one", a word and "incremented by
-- two"; setting the page "will not affect where bytes are actually loaded"; restoring it "will set the page of the location counter back to what it was when the
-- loader was called, regardless of any new pages which have been set since then"
abbrev pub after : (start : ℕ) → Counter → Item → Counter
after start c (Byte x) = counter c.page (c.offset + 1)
after start c (Word x) = counter c.page (c.offset + 2)
after start c (SetPage page) = counter page c.offset
after start c Restore = counter start c.offset
after start c (Move x) = counter c.page (landing c x % page_size)

-- one byte stored at an offset of the segment
pub record Put : Type 0 where
  pub offset : ℕ
  pub byte : ℕ

abbrev pub put : (offset byte : ℕ) → Put
put offset byte = record { offset = offset; byte = byte }

-- "A word is stored low byte first"; "the current location counter added on" (001, 10.3.2) is the one before the store
abbrev pub puts_at : Counter → Item → List Put
puts_at c (Byte x) = put c.offset x ∷ []
puts_at c (Word x) = put c.offset (relocated c x % 256) ∷ put (c.offset + 1) (relocated c x / 256) ∷ []
puts_at c (SetPage page) = []
puts_at c Restore = []
puts_at c (Move x) = []

-- all that items store, in their order
abbrev pub puts_of : (start : ℕ) → Counter → List Item → List Put
puts_of start c [] = []
puts_of start c (i ∷ items) = puts_at c i ++ puts_of start (after start c i) items

-- the bytes of a segment that starts at `base` in the RAM, put one after the other
abbrev pub put_each : (base : ℕ) → List ℕ → List Put → List ℕ
put_each base ram [] = ram
put_each base ram (p ∷ puts) = put_each base (put_at ram (base + p.offset) (p.byte ∷ [])) puts

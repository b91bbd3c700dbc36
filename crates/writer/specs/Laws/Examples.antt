-- Modules of one item each, and an empty one, by computation.
use Rattle.std.specs.Prelude.{◌≡◌, refl, [], ◌∷◌, Ok, Err}
use Rattle.modules.specs.Definition.Bits.{bits_of}
use Rattle.modules.specs.Definition.Items.{item_bits}
use Rattle.modules.specs.declared.Item.TheVariants.{Byte, Word, SetPage, Restore, Move}
use Rattle.writer.specs.Definition.Entries.{entry_of, all, flawed, flaw_at, listed}
use Rattle.writer.specs.Definition.Bytes.{bytes_of, module_of}
use Rattle.writer.specs.Definition.Writing.{refuses_from, refuses_page, answer_to}
use Rattle.writer.specs.declared.Why.TheVariants.{Cut, Tag, AboveByte, Valued}
use Rattle.writer.specs.declared.Refusal.TheVariants.{Page, Range}

-- `C0`
empty : module_of [] ≡ 192 ∷ []
unfolding module_of bytes_of item_bits bits_of
empty = refl

-- a byte 01: `00 E0`
one_byte : module_of (Byte 1 ∷ []) ≡ 0 ∷ 224 ∷ []
unfolding module_of bytes_of item_bits bits_of
one_byte = refl

-- a word 1234h: `82 46 98`
one_word : module_of (Word 4660 ∷ []) ≡ 130 ∷ 70 ∷ 152 ∷ []
unfolding module_of bytes_of item_bits bits_of
one_word = refl

-- page 3: `A7 80`
one-page : module_of (SetPage 3 ∷ []) ≡ 167 ∷ 128 ∷ []
unfolding module_of bytes_of item_bits bits_of
one-page = refl

-- `AE`
one-restore : module_of (Restore ∷ []) ≡ 174 ∷ []
unfolding module_of bytes_of item_bits bits_of
one-restore = refl

-- a move by 4000h: `B4 00 0C`
one-move : module_of (Move 16384 ∷ []) ≡ 180 ∷ 0 ∷ 12 ∷ []
unfolding module_of bytes_of item_bits bits_of
one-move = refl

-- ---- edges of the page rule, with a buffer that is long enough, or short

-- a word ends at 16,384, and one byte further
word-at-end : answer_to 0 16382 (Word 0 ∷ []) 3 ≡ Ok 3
unfolding answer_to refuses_page refuses_from module_of bytes_of item_bits bits_of
word-at-end = refl

word-past-end : answer_to 0 16383 (Word 0 ∷ []) 3 ≡ Err Page
unfolding answer_to refuses_page refuses_from module_of bytes_of item_bits bits_of
word-past-end = refl

-- a move back by 1, with a carry
move-back : answer_to 3 1 (Move 65535 ∷ []) 3 ≡ Ok 3
unfolding answer_to refuses_page refuses_from module_of bytes_of item_bits bits_of
move-back = refl

-- PAGE goes before RANGE, which a buffer one byte short gives
page-first : answer_to 0 0 (SetPage 4 ∷ []) 0 ≡ Err Page
unfolding answer_to refuses_page refuses_from module_of bytes_of item_bits bits_of
page-first = refl

one-short : answer_to 0 0 (Word 0 ∷ []) 2 ≡ Err Range
unfolding answer_to refuses_page refuses_from module_of bytes_of item_bits bits_of
one-short = refl

-- ---- what is no list of items: the second is cut, has another tag, is a byte above 255, or is a restore with a value

cut : listed (3 ∷ 0 ∷ 0 ∷ 3 ∷ 0 ∷ []) ≡ flawed (flaw_at 2 Cut)
unfolding listed entry_of
cut = refl

another-tag : listed (3 ∷ 0 ∷ 0 ∷ 5 ∷ 0 ∷ 0 ∷ []) ≡ flawed (flaw_at 2 Tag)
unfolding listed entry_of
another-tag = refl

above-255 : listed (3 ∷ 0 ∷ 0 ∷ 0 ∷ 0 ∷ 1 ∷ []) ≡ flawed (flaw_at 2 AboveByte)
unfolding listed entry_of
above-255 = refl

valued : listed (3 ∷ 0 ∷ 0 ∷ 3 ∷ 1 ∷ 0 ∷ []) ≡ flawed (flaw_at 2 Valued)
unfolding listed entry_of
valued = refl

-- a page above 3 is an item
page-listed : listed (2 ∷ 0 ∷ 1 ∷ []) ≡ all (SetPage 256 ∷ [])
unfolding listed entry_of
page-listed = refl

-- Small modules and bad streams, by computation: as they are read, as their items' bits, and as they are judged.
use Rattle.std.specs.Prelude.{◌≡◌, ℕ, List, [], ◌∷◌, ◌++◌, replicate, Ok, Err}
use Rattle.std.proofs.Math.Path.{refl}
use Rattle.modules.specs.Definition.Bits.{Bit, O, bits_in}
use Rattle.modules.specs.Definition.Items.{item_bits, end_bits, all_bits}
use Rattle.modules.specs.Definition.Reading.{end, Taken, breaks_off, taken_in, taken_of}
use Rattle.modules.specs.Definition.Counter.{counter, put}
use Rattle.modules.specs.Definition.Judging.{judged, puts_in}
use Rattle.modules.specs.declared.Item.{Item}
use Rattle.modules.specs.declared.Item.TheVariants.{Byte, Word, SetPage, Restore, Move}
use Rattle.modules.specs.declared.Counter.{Counter}
use Rattle.modules.specs.declared.Target.{Target}
use Rattle.modules.specs.declared.Refusal.TheVariants.{Module, Page}

-- one item, the end item and so many zeros
abbrev alone : Item → (padding : ℕ) → Taken
alone i padding = record { items = i ∷ []; break = end (replicate padding O) }

abbrev alone_bits : Item → (padding : ℕ) → List Bit
alone_bits i padding = all_bits (i ∷ []) ++ (end_bits ++ replicate padding O)

-- the empty module, C0h
empty : taken_of (192 ∷ []) ≡ breaks_off (end (replicate 5 O))
unfolding taken_in bits_in
empty = refl

empty-bits : bits_in (192 ∷ []) ≡ all_bits [] ++ (end_bits ++ replicate 5 O)
unfolding bits_in
empty-bits = refl

-- the byte 01h, 00h E0h
one_byte : taken_of (0 ∷ 224 ∷ []) ≡ alone (Byte 1) 4
unfolding taken_in bits_in
one_byte = refl

one-byte-bits : bits_in (0 ∷ 224 ∷ []) ≡ alone_bits (Byte 1) 4
unfolding bits_in item_bits
one-byte-bits = refl

-- the word 1234h, 82h 46h 98h
one_word : taken_of (130 ∷ 70 ∷ 152 ∷ []) ≡ alone (Word 4660) 2
unfolding taken_in bits_in
one_word = refl

one-word-bits : bits_in (130 ∷ 70 ∷ 152 ∷ []) ≡ alone_bits (Word 4660) 2
unfolding bits_in item_bits
one-word-bits = refl

-- set page 3, A7h 80h
set-page : taken_of (167 ∷ 128 ∷ []) ≡ alone (SetPage 3) 6
unfolding taken_in bits_in
set-page = refl

set-page-bits : bits_in (167 ∷ 128 ∷ []) ≡ alone_bits (SetPage 3) 6
unfolding bits_in item_bits
set-page-bits = refl

-- restore, AEh: no padding
restore : taken_of (174 ∷ []) ≡ alone Restore 0
unfolding taken_in bits_in
restore = refl

restore-bits : bits_in (174 ∷ []) ≡ alone_bits Restore 0
unfolding bits_in item_bits
restore-bits = refl

-- move 4000h, B4h 00h 0Ch
move : taken_of (180 ∷ 0 ∷ 12 ∷ []) ≡ alone (Move 16384) 1
unfolding taken_in bits_in
move = refl

move-bits : bits_in (180 ∷ 0 ∷ 12 ∷ []) ≡ alone_bits (Move 16384) 1
unfolding bits_in item_bits
move-bits = refl

-- from any counter, for any target
module _ (g : Target) (c : Counter) where
  empty-whole : judged g c (192 ∷ []) ≡ Ok 1
  unfolding judged taken_in bits_in
  empty-whole = refl

  -- C0h FFh: bytes behind the end item's last are not looked at
  more-behind : judged g c (192 ∷ 255 ∷ []) ≡ Ok 1
  unfolding judged taken_in bits_in
  more-behind = refl

  -- C1h: a bit of the padding is not zero
  bad-padding : judged g c (193 ∷ []) ≡ Err Module
  unfolding judged taken_in bits_in
  bad-padding = refl

  -- E0h
  illegal-item : judged g c (224 ∷ []) ≡ Err Module
  unfolding judged taken_in bits_in
  illegal-item = refl

  nothing : judged g c [] ≡ Err Module
  unfolding judged taken_in bits_in
  nothing = refl

  -- 00h: a byte whose last bit is missing
  cut-byte : judged g c (0 ∷ []) ≡ Err Module
  unfolding judged taken_in bits_in
  cut-byte = refl

-- 4000h on from page 3 is page 0
next-page : (g : Target) → judged g (counter 3 0) (180 ∷ 0 ∷ 12 ∷ []) ≡ Err Page
unfolding judged taken_in bits_in
next-page g = refl

-- 16,384 is past the end: a move by 0 from there, B0h 00h 0Ch, is none within the page
past_the_end : (g : Target) → judged g (counter 0 16384) (176 ∷ 0 ∷ 12 ∷ []) ≡ Err Page
unfolding judged taken_in bits_in
past_the_end g = refl

-- the word 1234h at the start of page 1 is stored as 5234h, low byte first
relocated-word : puts_in 1 0 (130 ∷ 70 ∷ 152 ∷ []) ≡ put 0 52 ∷ put 1 82 ∷ []
unfolding taken_in bits_in
relocated-word = refl

-- ---- several items

-- set page 3, word 0: from 1:0 the value is C000h
page-set : puts_in 1 0 (167 ∷ 0 ∷ 0 ∷ 48 ∷ []) ≡ put 0 0 ∷ put 1 192 ∷ []
unfolding taken_in bits_in
page-set = refl

-- set page 3, restore, word 0: from 1:0 the value is 4000h
page-restored : puts_in 1 0 (167 ∷ 88 ∷ 0 ∷ 1 ∷ 128 ∷ []) ≡ put 0 0 ∷ put 1 64 ∷ []
unfolding taken_in bits_in
page-restored = refl

-- byte AAh, move FFFFh, byte BBh: from offset 5 both stand at 5, the second last
back-and-again : puts_in 0 5 (85 ∷ 95 ∷ 255 ∷ 250 ∷ 239 ∷ 0 ∷ []) ≡ put 5 170 ∷ put 5 187 ∷ []
unfolding taken_in bits_in
back-and-again = refl

back-and-again-whole : judged (record { row = 1; reach = 16384; page = 0 }) (counter 0 5) (85 ∷ 95 ∷ 255 ∷ 250 ∷ 239 ∷ 0 ∷ []) ≡ Ok 6
unfolding judged taken_in bits_in
back-and-again-whole = refl

-- move 0010h, word 1000h, byte 7Fh: from 2:4 at 20
moved_on : puts_in 2 4 (176 ∷ 1 ∷ 8 ∷ 32 ∷ 0 ∷ 127 ∷ 192 ∷ []) ≡ put 20 20 ∷ put 21 144 ∷ put 22 127 ∷ []
unfolding taken_in bits_in
moved_on = refl

-- word FFFFh: at 3:16,382, FFFEh, the sum is FFFDh
carry-dropped : puts_in 3 16382 (159 ∷ 255 ∷ 248 ∷ []) ≡ put 16382 253 ∷ put 16383 255 ∷ []
unfolding taken_in bits_in
carry-dropped = refl

-- set page 3, move FFFFh, byte 01h: from 0:5 at 4, for the move stays in the page that is set
set-then-moved : puts_in 0 5 (167 ∷ 127 ∷ 255 ∷ 224 ∷ 28 ∷ []) ≡ put 4 1 ∷ []
unfolding taken_in bits_in
set-then-moved = refl

set-then-moved-whole : judged (record { row = 1; reach = 16384; page = 0 }) (counter 0 5) (167 ∷ 127 ∷ 255 ∷ 224 ∷ 28 ∷ []) ≡ Ok 5
unfolding judged taken_in bits_in
set-then-moved-whole = refl

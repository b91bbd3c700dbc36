-- The strings of 01's case 10, and those at the edges of the rules, by computation.
use Rattle.std.specs.Prelude.{◌≡◌, refl, [], ◌∷◌, ◌++◌, replicate, Some, None}
use Rattle.std.proofs.Math.Option.{none, some}
use Rattle.names.specs.Definition.Grammar.{no-unit, plain, file-only, full}
use Rattle.names.specs.Definition.Words.{word_of}
use Rattle.names.specs.Definition.Read.{reading}
use Rattle.names.specs.Definition.Parts.{parts_of}

-- "-3:"
minus-three : parts_of (reading (45 ∷ 51 ∷ 58 ∷ [])) ≡ Some (record { letters = 0; unit = Some 3; file = 3 })
unfolding reading
minus-three = refl

-- "NET-:"
net-minus : reading (78 ∷ 69 ∷ 84 ∷ 45 ∷ 58 ∷ []) ≡ none
unfolding reading
net-minus = refl

-- "net07:"
net-seven : reading (110 ∷ 101 ∷ 116 ∷ 48 ∷ 55 ∷ 58 ∷ []) ≡ some (full (110 ∷ 101 ∷ 116 ∷ []) (plain (48 ∷ 55 ∷ [])) [])
unfolding reading
net-seven = refl

net-seven-parts : parts_of (reading (110 ∷ 101 ∷ 116 ∷ 48 ∷ 55 ∷ 58 ∷ [])) ≡ Some (record { letters = 3; unit = Some 7; file = 6 })
unfolding reading
net-seven-parts = refl

-- the word of "net" is "NET" and 25 zeros
net-word : word_of (110 ∷ 101 ∷ 116 ∷ []) ≡ 78 ∷ 69 ∷ 84 ∷ replicate 25 0
unfolding word_of
net-word = refl

-- ""
empty : reading [] ≡ some (file-only [])
unfolding reading
empty = refl

-- ":"
colon : reading (58 ∷ []) ≡ some (full [] no-unit [])
unfolding reading
colon = refl

-- "VIDEO"
video : reading (86 ∷ 73 ∷ 68 ∷ 69 ∷ 79 ∷ []) ≡ some (file-only (86 ∷ 73 ∷ 68 ∷ 69 ∷ 79 ∷ []))
unfolding reading
video = refl

-- "VIDEO:"
video-colon : reading (86 ∷ 73 ∷ 68 ∷ 69 ∷ 79 ∷ 58 ∷ []) ≡ some (full (86 ∷ 73 ∷ 68 ∷ 69 ∷ 79 ∷ []) no-unit [])
unfolding reading
video-colon = refl

-- "A:B:"
two-colons : reading (65 ∷ 58 ∷ 66 ∷ 58 ∷ []) ≡ none
unfolding reading
two-colons = refl

-- "255:" and "256:"
highest-unit : parts_of (reading (50 ∷ 53 ∷ 53 ∷ 58 ∷ [])) ≡ Some (record { letters = 0; unit = Some 255; file = 4 })
unfolding reading
highest-unit = refl

unit-too-high : reading (50 ∷ 53 ∷ 54 ∷ 58 ∷ []) ≡ none
unfolding reading
unit-too-high = refl

-- 250 zeros and "7:"
long-unit : parts_of (reading (replicate 250 48 ++ (55 ∷ 58 ∷ []))) ≡ Some (record { letters = 0; unit = Some 7; file = 252 })
unfolding reading
long-unit = refl

-- 255 bytes are taken, and 256 are not
longest : parts_of (reading (replicate 254 48 ++ (58 ∷ []))) ≡ Some (record { letters = 0; unit = Some 0; file = 255 })
unfolding reading
longest = refl

too_long : reading (replicate 255 48 ++ (58 ∷ [])) ≡ none
unfolding reading
too_long = refl

-- 28 letters and 28 bytes of a file are taken, and 29 are not
letters-28 : parts_of (reading (replicate 28 65 ++ (58 ∷ replicate 28 126))) ≡ Some (record { letters = 28; unit = None; file = 29 })
unfolding reading
letters-28 = refl

letters-29 : reading (replicate 29 65 ++ (58 ∷ [])) ≡ none
unfolding reading
letters-29 = refl

file-29 : reading (replicate 29 65) ≡ none
unfolding reading
file-29 = refl

-- 7Fh is in no file
file-7F : reading (127 ∷ []) ≡ none
unfolding reading
file-7F = refl

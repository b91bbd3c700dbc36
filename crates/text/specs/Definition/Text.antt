-- Numbers and bytes as text: "in decimal, one space between", "the bytes in lower-case hex".
use Rattle.std.specs.Prelude.{codes, cond, List, [], ◌∷◌, ◌++◌, ℕ, zero, suc, ◌+◌, ◌/◌, ◌%◌, ltb}
use Prim.Native.String.{String}

-- a text as the numbers of its letters
abbrev pub letters : String → List ℕ
letters s = codes s

abbrev pub digit_of : ℕ → ℕ
digit_of n = 48 + n % 10

-- one digit below ten; else the numeral of the tenth part, and the last digit (in at most k steps)
unfoldable pub decimal_in : ℕ → ℕ → List ℕ
decimal_in zero n = digit_of n ∷ []
decimal_in (suc k) n = cond (ltb n 10) (digit_of n ∷ []) (decimal_in k (n / 10) ++ (digit_of n ∷ []))

unfoldable pub decimal_of : ℕ → List ℕ
decimal_of n = decimal_in n n

-- 0 to 9, then a to f
abbrev pub glyph : ℕ → ℕ
glyph d = cond (ltb d 10) (48 + d) (87 + d)

abbrev pub hex_of : List ℕ → List ℕ
hex_of [] = []
hex_of (x ∷ xs) = glyph (x / 16) ∷ glyph (x % 16) ∷ hex_of xs

unfoldable pub fields_of : ℕ → ℕ → ℕ → ℕ → List ℕ
fields_of kind number a b =
    (decimal_of kind ++ (32 ∷ [])) ++ (decimal_of number ++ (32 ∷ [])) ++ (decimal_of a ++ (32 ∷ [])) ++ decimal_of b

-- Device names as link, default and open keep them: in capitals, in 28 bytes; and the strings that link and default take.
use Rattle.std.specs.Prelude.{ℕ, ◌-◌, ◌≤◌, ◌&&◌, cond, List, map, ◌++◌, length, take, replicate, leb}
use Rattle.names.specs.Definition.Grammar.{All, Capital, Letter}

-- "upper-cased": a to z become A to Z
unfoldable pub upper : ℕ → ℕ
upper b = cond (leb 97 b && leb b 122) (b - 32) b

unfoldable pub upper_all : List ℕ → List ℕ
unfolding upper
upper_all bs = map upper bs

-- the first 28 bytes upper-cased, and zeros after them up to 28
unfoldable pub word_of : List ℕ → List ℕ
unfolding upper_all
word_of bs = upper_all (take 28 bs) ++ replicate (28 - length bs) 0

-- "Link and default take 1 to 28 bytes, all letters; link takes capitals only, default upper-cases what it keeps."
abbrev pub LinkName : List ℕ → Type 0
LinkName s = (1 ≤ length s) × (length s ≤ 28) × All Capital s

abbrev pub DefaultName : List ℕ → Type 0
DefaultName s = (1 ≤ length s) × (length s ≤ 28) × All Letter s

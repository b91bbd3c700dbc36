-- The word that tells an end.
use Rattle.std.specs.Prelude.{List, [], ◌∷◌, ℕ, Result, Ok, Err}
use Rattle.text.specs.Definition.Text.{decimal_of}
use Rattle.writer.specs.declared.Why.{Why}
use Rattle.writer.specs.declared.Why.TheVariants.{Cut, Tag, AboveByte, Valued}
use Rattle.writer.specs.declared.Refusal.TheVariants.{NoStart, NoList, Page, Range}
use Rattle.exos_module.specs.declared.Failure.{Failure}
use Rattle.exos_module.specs.declared.Failure.TheVariants.{ReadFailed, TooMany, Refused, WriteFailed, ReaderEnded}

-- `c`, `t`, `b` and `v`
abbrev pub letter_of : Why → ℕ
letter_of Cut = 99
letter_of Tag = 116
letter_of AboveByte = 98
letter_of Valued = 118

-- a letter each: `0` done; `w` a write failed, `p` its reader has ended ("pipe"), `r` a read failed; `o` PAGE ("outside"), `s` RANGE ("short"); `h` no start ("head"), `m` more
-- items than are taken; of an item that is none the letter of why, and its number, from 1, in decimal
abbrev pub told_of : Result Unit Failure → List ℕ
told_of (Ok done) = 48 ∷ []
told_of (Err WriteFailed) = 119 ∷ []
told_of (Err ReaderEnded) = 112 ∷ []
told_of (Err ReadFailed) = 114 ∷ []
told_of (Err (Refused Page)) = 111 ∷ []
told_of (Err (Refused Range)) = 115 ∷ []
told_of (Err (Refused NoStart)) = 104 ∷ []
told_of (Err TooMany) = 109 ∷ []
told_of (Err (Refused (NoList f))) = letter_of f.why ∷ decimal_of f.number

-- An item's bits as a number of so many bits.
use Rattle.std.specs.Prelude.{ℕ, ◌+◌, ◌%◌}
use Rattle.modules.specs.declared.Item.{Item}
use Rattle.modules.specs.declared.Item.TheVariants.{Byte, Word, SetPage, Restore, Move}

abbrev pub width_of : Item → ℕ
width_of (Byte x) = 9
width_of (Word x) = 19
width_of (SetPage page) = 7
width_of Restore = 5
width_of (Move x) = 20

-- `100`, `10100`, `10101` and `1011` before the number
abbrev pub code_of : Item → ℕ
code_of (Byte x) = x % 256
code_of (Word x) = 262144 + x % 65536
code_of (SetPage page) = 80 + page % 4
code_of Restore = 21
code_of (Move x) = 720896 + x % 65536

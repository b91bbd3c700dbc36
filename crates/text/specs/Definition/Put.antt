-- Bytes written at a place of a buffer, as the contracts of text say it.
use Rattle.std.specs.Prelude.{◌≡◌, List, ◌++◌, ℕ, ◌+◌, ◌≤◌, length, take, drop}
use Rattle.text.specs.declared.Cursor.{Cursor}

-- the bytes xs were written at `at` of a buffer, up to r: what stood before and behind them stands there still
pub record Put (before after : List ℕ) (at r : ℕ) (xs : List ℕ) : Type 0 where
  pub stop : r ≡ at + length xs
  pub text : take r after ≡ take at before ++ xs
  pub behind : drop r after ≡ drop r before

-- the same of a cursor, which keeps its text and the text its length
pub record Puts (c d : Cursor) (xs : List ℕ) : Type 0 where
  pub same : d.text.ghost_name ≡ c.text.ghost_name
  pub long : length d.text.now ≡ length c.text.now
  pub put : Put c.text.now d.text.now c.at d.at xs

-- n bytes find room at a cursor
abbrev pub Room : Cursor → ℕ → Type 0
Room c n = c.at + n ≤ length c.text.now

-- Which places are the user's, and the byte there.
use Rattle.std.specs.Prelude.{◌≡◌, ℕ, ◌+◌, ◌<◌, get_or}
use Rattle.rows.specs.Definition.Classes.{USER, SHARED}
use Rattle.kernel.specs.Definition.Tables.{SEGMENT, class_at, row_of}
use Rattle.kernel.specs.Definition.Bytes.{segment_at}
use Rattle.kernel.specs.declared.Tables.{Tables}
use Rattle.history.specs.Definition.Runs.{State}

-- "the page zero segment and user segments up to 16,384, a shared one up to the user boundary": an offset of the segment in this row is the user's
pub data Users (t : Tables) (row offset : ℕ) : Type 0 where
  page-zero : row ≡ 0 → offset < SEGMENT → Users t row offset
  own : row < t.segments → class_at t row ≡ USER → offset < SEGMENT → Users t row offset
  shared : row < t.segments → class_at t row ≡ SHARED → offset < t.user → Users t row offset

-- "while that place stays the user's" (condition 3): an offset of a segment of the list is the user's in a state
abbrev pub UsersIn : (segment offset : ℕ) → State → Type 0
UsersIn segment offset s = Users s.tables (row_of s.tables segment) offset

-- "A user's byte": the byte of the RAM there
abbrev pub user_byte : State → (segment offset : ℕ) → ℕ
user_byte s segment offset = get_or s.ram (segment_at (row_of s.tables segment) + offset) 0

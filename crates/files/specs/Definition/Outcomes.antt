-- What a read into a buffer, and a write of bytes, of `size` can tell. Which bytes came or went no contract can name.
use Rattle.std.specs.Prelude.{◌≡◌, List, ◌++◌, ℕ, ◌+◌, ◌≤◌, ◌<◌, length, take, Result, Ok, Err}
use Rattle.std.specs.Result.{result_unwrap_or}
use Rattle.files.specs.declared.ReadFailed.{ReadFailed}
use Rattle.files.specs.declared.Unread.{Unread}
use Rattle.files.specs.declared.Unwritten.{Unwritten}
use Rattle.files.specs.declared.Unwritten.TheVariants.{Failed, Closed}

-- what a read, reads up to the end of the input, and a write tell
abbrev pub Got : Type 0
Got = Result ℕ ReadFailed

abbrev pub Filled : Type 0
Filled = Result ℕ Unread

abbrev pub Wrote : Type 0
Wrote = Result (Unit {0}) Unwritten

-- a read brings no byte that the buffer has no room for; it brings none only where the input has ended or it failed
abbrev pub Brings : (size : ℕ) → Got → Type 0
Brings size (Ok n) = n ≤ size
Brings size (Err failed) = Unit {0}

-- how many bytes a read brought
abbrev pub count_of : Got → ℕ
count_of got = result_unwrap_or got 0

-- after a read behind the n bytes xs at the front of the buffer: they stay, in their order, and the piece that came stands behind them
pub record ReadOn (xs : List ℕ) (n : ℕ) (buf : List ℕ) (got : Got) : Type 0 where
  pub piece : List ℕ
  pub came : length piece ≡ count_of got
  pub fits : n + count_of got ≤ length buf
  pub hand : take (n + count_of got) buf ≡ xs ++ piece

-- the input's end is met while the buffer has room
abbrev pub Fills : (size : ℕ) → Filled → Type 0
Fills size (Ok n) = n < size
Fills size (Err why) = Unit {0}

-- a write that is not done leaves at least a byte
abbrev pub Takes : (size : ℕ) → Wrote → Type 0
Takes size (Ok done) = Unit {0}
Takes size (Err (Failed n)) = n < size
Takes size (Err (Closed n)) = n < size

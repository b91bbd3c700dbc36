-- What becomes of the bytes: a call names its change of the RAM and what fills the lent output (Calls.antt); what each means, and what it moves, is said here, once.
use Rattle.std.specs.Prelude.{cond, List, [], ◌∷◌, ℕ, ◌+◌, ◌-◌, ◌*◌, length, take, drop, replicate}
use Rattle.line.specs.Definition.Line.{line_from, put_line, after_open, after_close, after_link}
use Rattle.line.specs.Definition.Moves.{Move, close_moves, link_moves}
use Rattle.line.specs.Definition.Ram.{put_at, filled}
use Rattle.modules.specs.Definition.Counter.{Put, put_each}
use Rattle.rows.specs.Definition.Classes.{FREE, USER, SYSTEM, DEVICE, SHARED}
use Rattle.rows.specs.declared.Channel.{Channel}
use Rattle.kernel.specs.Definition.Tables.{SEGMENT, count_of}
use Rattle.kernel.specs.Definition.Line.{total_of, record_at, size_at, buffer_at}
use Rattle.kernel.specs.Definition.Reset.{closes_all, bit5}
use Rattle.kernel.specs.declared.Tables.{Tables}

-- a change of the RAM; "No other byte changes."
pub data Change : Type 0 where
  nothing : Change
  -- "Start zeroes all RAM"
  zeroed : Change
  -- a reset by its flags
  cleared : (flags : ℕ) → Change
  -- "Open appends a record, its buffer zero": the record of this row
  appended : Channel → Change
  -- "Close removes one": the record of row i
  removed : (i : ℕ) → Change
  -- link: "R falls by m, the line keeps its positions and so moves down"
  lowered : (m : ℕ) → Change
  -- bytes put into the buffer of row i
  in_buffer : (i offset : ℕ) (bytes : List ℕ) → Change
  -- bytes put into the segment of a row
  in-segment : (row offset : ℕ) (bytes : List ℕ) → Change
  -- bytes put one by one into the segment of a row: "one user store per byte" (order 3)
  one_by_one : (row : ℕ) (puts : List Put) → Change

-- what fills the first bytes of the lent output; "the rest stays"
pub data Filling : Type 0 where
  unfilled : Filling
  these : (bytes : List ℕ) → Filling
  -- `size` bytes from `offset` on: of the buffer of row i; of the segment of a row
  from-buffer : (i offset size : ℕ) → Filling
  from-segment : (row offset size : ℕ) → Filling

-- "Open appends a record, its buffer zero"
abbrev pub ram_opened : (t u : Tables) → List ℕ → Channel → List ℕ
ram_opened t u ram c = after_open u.chain t.room ram (total_of t) c.number c.device c.unit c.n

-- "Close removes one; later records move up and keep all their bytes"
abbrev pub ram_closed : Tables → List ℕ → ℕ → List ℕ
ram_closed t ram i = after_close t.chain t.room ram (record_at t i) (16 + size_at t i) (total_of t)

-- "closes all channels": "positions that leave the line become zero"; "restores the cold R, the RAM gained becoming zero": offsets R to cold R - 1
abbrev pub ram_reset : Tables → List ℕ → ℕ → List ℕ
ram_reset t ram flags =
    let emptied = cond (closes_all flags) (put_line t.chain t.room ram 0 (replicate (total_of t) 0)) ram in
    cond (bit5 flags) (put_line t.chain t.cold emptied 0 (replicate (t.cold - t.room) 0)) emptied

-- where the bytes of a row's segment start in the RAM
abbrev pub segment_at : ℕ → ℕ
segment_at row = SEGMENT * row

-- the RAM after a change by a call that was made on the tables t and gave the tables u: an open and a link lie on the chain of u, which may have grown
unfoldable pub ram_after : (t u : Tables) → List ℕ → Change → List ℕ
ram_after t u ram nothing = ram
ram_after t u ram zeroed = replicate (length ram) 0
ram_after t u ram (cleared flags) = ram_reset t ram flags
ram_after t u ram (appended c) = ram_opened t u ram c
ram_after t u ram (removed i) = ram_closed t ram i
ram_after t u ram (lowered m) = after_link u.chain t.room m ram (total_of t)
ram_after t u ram (in_buffer i offset bytes) = put_line t.chain t.room ram (buffer_at t i + offset) bytes
ram_after t u ram (in-segment row offset bytes) = put_at ram (segment_at row + offset) bytes
ram_after t u ram (one_by_one row puts) = put_each (segment_at row) ram puts

-- order 8: "how many record bytes changed position or place". The moves of a close of row i, which line's Moves.antt says step by step
abbrev pub moves_closed : Tables → ℕ → List Move
moves_closed t i = close_moves t.chain t.room (record_at t i) (16 + size_at t i) (total_of t)

-- the moves of a change by a call on the tables t that gave the tables u; those of a link lie on the chain of u, which may have grown. "Other and refused
-- calls report 0"
unfoldable pub moves_of : (t u : Tables) → Change → List Move
moves_of t u nothing = []
moves_of t u zeroed = []
moves_of t u (cleared flags) = []
moves_of t u (appended c) = []
moves_of t u (removed i) = moves_closed t i
moves_of t u (lowered m) = link_moves u.chain t.room m (total_of t)
moves_of t u (in_buffer i offset bytes) = []
moves_of t u (in-segment row offset bytes) = []
moves_of t u (one_by_one row puts) = []

-- "Status writes the counts free, user, system, device, shared."
abbrev pub counts_of : Tables → List ℕ
counts_of t = count_of FREE t ∷ count_of USER t ∷ count_of SYSTEM t ∷ count_of DEVICE t ∷ count_of SHARED t ∷ []

-- "Read, load and status fill the first b bytes of the lent output; the rest stays."
unfoldable pub output_after : Tables → List ℕ → Filling → List ℕ → List ℕ
output_after t ram unfilled output = output
output_after t ram (these bytes) output = filled (length bytes) bytes output
output_after t ram (from-buffer i offset size) output = filled size (line_from t.chain t.room ram (buffer_at t i + offset) size) output
output_after t ram (from-segment row offset size) output = filled size (take size (drop (segment_at row + offset) ram)) output

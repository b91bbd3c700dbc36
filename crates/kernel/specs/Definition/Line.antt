-- "The line of channel RAM": T, the EXOS boundary, how the chain grows and shrinks, the room rule, and the tables after an open and a close.
use Rattle.std.specs.Prelude.{Bool, cond, ◌&&◌, Option, Some, None, ℕ, zero, suc, ◌+◌, ◌-◌, ◌*◌, leb, eqb, get_or, take, set}
use Rattle.rows.specs.Definition.Lists.{last_of, without}
use Rattle.rows.specs.Definition.Classes.{FREE, USER, SYSTEM, SHARED}
use Rattle.rows.specs.Definition.Channels.{zero_channel, sum_of}
use Rattle.rows.specs.Definition.Sizes.{chain_length, boundary_at}
use Rattle.rows.specs.declared.Channel.{Channel}
use Rattle.kernel.specs.Definition.Tables.{SEGMENT, class_at, count_of, sharing, last_row, with_segments, with_channels}
use Rattle.kernel.specs.declared.Tables.{Tables}

-- "Records lie end to end in opening order": the position where the record of row i starts
abbrev pub record_at : Tables → ℕ → ℕ
record_at t i = sum_of (take i t.channels)

-- "T is the sum of their lengths."
abbrev pub total_of : Tables → ℕ
total_of t = record_at t t.opened

-- "a 16-byte heading and then its buffer of n bytes, 0 <= n <= 65,535": n, a u16 of the row, and the position where the buffer starts
abbrev pub size_at : Tables → ℕ → ℕ
size_at t i = (get_or t.channels i zero_channel).n

abbrev pub buffer_at : Tables → ℕ → ℕ
buffer_at t i = record_at t i + 16

-- the EXOS boundary
abbrev pub boundary_of : Tables → ℕ
boundary_of t = boundary_at t.room (total_of t)

-- the chain with one further segment, where there is one to take
abbrev pub taking : Tables → Option ℕ → Tables
taking t (Some row) = with_segments t (set t.classes row SYSTEM) (t.held + 1) (set t.chain t.held row) t.user
taking t None = t

-- "A new system segment is the highest numbered free one". By the room rule it is asked only where a segment is free; unused rows have class 0, so that
-- the whole array may be searched.
unfoldable pub one_more : Tables → Tables
one_more t = taking t (last_of FREE t.classes)

unfoldable pub grown : ℕ → Tables → Tables
unfolding one_more
grown zero t = t
grown (suc k) t = grown k (one_more t)

-- "segments are given up from the chain's end"; "A given-up segment becomes free, a shared one becomes user and the user boundary 0."
unfoldable pub one_less : Tables → Tables
one_less t =
    let row = last_row t in
    let was = class_at t row in
    with_segments t (set t.classes row (cond (eqb was SHARED) USER FREE)) (t.held - 1) (set t.chain (t.held - 1) 0) (cond (eqb was SHARED) 0 t.user)

unfoldable pub shrunk : ℕ → Tables → Tables
unfolding one_less
shrunk zero t = t
shrunk (suc k) t = shrunk k (one_less t)

-- "Room rule: with nothing shared, T may reach R + 16,384 x (chain length - 1 + free segments). With a segment shared, the line stays in the
-- present chain and the EXOS boundary may not fall below the user boundary, even if a free segment exists (build)." For a line of length n at the room r;
-- the present chain has R + 16,384 x (chain length - 1) bytes.
unfoldable pub room_for : Tables → (r n : ℕ) → Bool
room_for t r n =
    cond (sharing t)
    (leb n (r + SEGMENT * (t.held - 1)) && leb t.user (boundary_at r n))
    (leb n (r + SEGMENT * (t.held - 1 + count_of FREE t)))

-- "Open appends a record"
unfoldable pub opening : Tables → Channel → Tables
opening t c =
    grown (chain_length t.room (total_of t + (16 + c.n)) - t.held) (with_channels t (t.opened + 1) (set t.channels t.opened c))

-- "Close removes one": the row i
unfoldable pub closing : Tables → ℕ → Tables
closing t i =
    let u = with_channels t (t.opened - 1) (without i t.channels zero_channel) in
    shrunk (t.held - chain_length t.room (total_of u)) u

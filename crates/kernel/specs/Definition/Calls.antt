-- "Calls and their bodies": the calls with what their bodies hold, and of each the answer, the next tables and what becomes of the bytes.
-- A call's refusals stand in the order of their numbers; TABLES comes before them all (Step.antt). Which body holds which call is said in the crate events.
use Rattle.std.specs.Prelude.{Bool, true, false, cond, not, ◌&&◌, ◌||◌, List, [], ◌∷◌, ℕ, ◌+◌, ◌-◌, leb, ltb, eqb, length}
use Rattle.std.proofs.Math.Option.{Option, none, some}
use Rattle.line.specs.Definition.Given.{given_of}
use Rattle.line.specs.Definition.Guard.{guarded}
use Rattle.modules.specs.Definition.Counter.{past_range, counter}
use Rattle.modules.specs.Definition.Judging.{judged, puts_in, refusal_of, used_of}
use Rattle.modules.specs.declared.Target.{Target}
use Rattle.names.specs.Definition.Grammar.{Reading}
use Rattle.names.specs.Definition.Read.{reading}
use Rattle.names.specs.Definition.Tests.{link_name_test, default_name_test}
use Rattle.names.specs.Definition.Words.{word_of}
use Rattle.rows.specs.Definition.Channels.{new_channel}
use Rattle.kernel.specs.Definition.Tables.{SEGMENT, number_at, row_of, lowest_free, sharing, last_row, channel_at, with_default}
use Rattle.kernel.specs.Definition.Line.{total_of, size_at, boundary_of, room_for, opening, closing}
use Rattle.kernel.specs.Definition.Segments.{some_free, may_share, granting, sharing_last, may_free, freeing, bounding, may_reach, reach_of}
use Rattle.kernel.specs.Definition.Devices.{linking, device_named}
use Rattle.kernel.specs.Definition.Reset.{other_bits, resetting}
use Rattle.kernel.specs.Definition.Start.{start_test, started}
use Rattle.kernel.specs.Definition.Names.{wanted, device_for}
use Rattle.kernel.specs.declared.Wanted.{Wanted}
use Rattle.kernel.specs.Definition.Bytes.{nothing, zeroed, cleared, appended, removed, lowered, in_buffer, in-segment, one_by_one, these, from-buffer, from-segment, counts_of}
use Rattle.kernel.specs.Definition.Answers.{gives, Decision, ◌changing◌, ◌filling◌, unless, ◌when◌}
use Rattle.kernel.specs.declared.Tables.{Tables}
use Rattle.kernel.specs.declared.Answer.TheVariants.{Done, BadCall, NoChannel, Exists, BadName, NoDevice, Driver, Full, NoRoom, NoSegment, NotOwner, BadBoundary, BadRange, Guarded, BadFlags, BadStart, Shared, BadModule, BadPage}

pub data Call : Type 0 where
  start : (room : ℕ) (list : List ℕ) → Call
  reset : (flags : ℕ) → Call
  -- "The driver's reply to an open is an input."
  «open» : (channel driver n : ℕ) (name : List ℕ) → Call
  close : (channel : ℕ) → Call
  read : (channel offset asked : ℕ) → Call
  write : (channel offset : ℕ) (bytes : List ℕ) → Call
  default : (unit : ℕ) (name : List ℕ) → Call
  status : Call
  link : (m : ℕ) (name : List ℕ) → Call
  boundary : Call
  set-user-boundary : (value : ℕ) → Call
  allocate : (caller : ℕ) → Call
  free : (caller segment : ℕ) → Call
  store : (segment offset : ℕ) (bytes : List ℕ) → Call
  load : (segment offset size : ℕ) → Call
  -- "segment u8, start page u8 (0 to 3), start offset u16 (0 to 16,384), then the stream" (order 3)
  load-module : (segment page offset : ℕ) (stream : List ℕ) → Call
  -- no call: "kind unknown; body short of its fixed fields, or longer without name, data or list"
  no_call : Call
  -- a start whose body is short of its fixed field
  short-start : Call

abbrev pub is_start : Call → Bool
is_start (start room list) = true
is_start (reset flags) = false
is_start («open» channel driver n name) = false
is_start (close channel) = false
is_start (read channel offset asked) = false
is_start (write channel offset bytes) = false
is_start (default unit name) = false
is_start status = false
is_start (link m name) = false
is_start boundary = false
is_start (set-user-boundary value) = false
is_start (allocate caller) = false
is_start (free caller segment) = false
is_start (store segment offset bytes) = false
is_start (load segment offset size) = false
is_start (load-module segment page offset stream) = false
is_start no_call = false
is_start short-start = true

-- `ram` and `output` are how many bytes are lent. Each call is first its refusals in the order of their numbers, then a, b "when done", quoted above it,
-- and the next tables, and last what it changes in the RAM or what fills the output (Bytes.antt).

-- "segments, R"
unfoldable pub on_start : Tables → (ram room : ℕ) (list : List ℕ) → Decision
unfolding started
on_start t ram room list =
    unless (BadStart when not (start_test ram room list) ∷ []) t
    (gives (Done (length list) room) (started room list) changing zeroed)

-- "0, 0"
unfoldable pub on_reset : Tables → (flags : ℕ) → Decision
unfolding resetting
on_reset t flags = unless (BadFlags when other_bits flags ∷ []) t (gives (Done 0 0) (resetting t flags) changing cleared flags)

-- open, once the string is read: "device, unit"
unfoldable pub on_open_to : Tables → (channel driver n : ℕ) → Wanted → Decision
unfolding room_for opening
on_open_to t channel driver n w =
    let c = new_channel channel (device_for t w) w.unit n in
    unless
    (NoDevice when leb t.known (device_for t w)
    ∷ Driver driver when not (eqb driver 0)
    ∷ Full when leb 32 t.opened
    ∷ NoRoom when not (room_for t t.room (total_of t + (16 + n)))
    ∷ []) t
    (gives (Done (device_for t w) w.unit) (opening t c) changing appended c)

unfoldable pub on_open_named : Tables → (channel driver n : ℕ) → Option Reading → Decision
unfolding on_open_to
on_open_named t channel driver n none = gives BadName t changing nothing
on_open_named t channel driver n (some r) = on_open_to t channel driver n (wanted t r)

-- open: "255 only". Channels are "numbered 0 to 254", and a channel is a u8: no number beyond is one
unfoldable pub on_open : Tables → (channel driver n : ℕ) (name : List ℕ) → Decision
unfolding on_open_named reading
on_open t channel driver n name =
    unless (NoChannel when leb 255 channel ∷ Exists when ltb (channel_at t channel) t.opened ∷ []) t
    (on_open_named t channel driver n (reading name))

-- "The channel is looked up once; a channel not found ends the call." 255 is no channel's number in good tables. "0, 0"
unfoldable pub on_close : Tables → (channel : ℕ) → Decision
unfolding closing
on_close t channel =
    let i = channel_at t channel in
    unless (NoChannel when leb t.opened i ∷ []) t
    (gives (Done 0 0) (closing t i) changing removed i)

-- a is 0; order 2: "A channel read now gives the bytes that remain, up to the length asked; b is their number"; "read gives RANGE only where the lent
-- output is shorter than what it would give"
unfoldable pub on_read : Tables → (output channel offset asked : ℕ) → Decision
unfolding given_of
on_read t output channel offset asked =
    let i = channel_at t channel in
    let b = given_of (size_at t i) offset asked in
    unless
    (NoChannel when leb t.opened i
    ∷ BadRange when ltb output b
    ∷ []) t
    (gives (Done 0 b) t filling from-buffer i offset b)

-- "0, length"
unfoldable pub on_write : Tables → (channel offset : ℕ) (bytes : List ℕ) → Decision
on_write t channel offset bytes =
    let i = channel_at t channel in
    unless
    (NoChannel when leb t.opened i
    ∷ BadRange when ltb (size_at t i) (offset + length bytes)
    ∷ []) t
    (gives (Done 0 (length bytes)) t changing in_buffer i offset bytes)

-- "default upper-cases what it keeps". "0, 0"
unfoldable pub on_default : Tables → (unit : ℕ) (name : List ℕ) → Decision
unfolding word_of
on_default t unit name =
    unless (BadName when not (default_name_test name) ∷ []) t
    (gives (Done 0 0) (with_default t (word_of name) (length name) unit) changing nothing)

-- "0, 5"
unfoldable pub on_status : Tables → (output : ℕ) → Decision
on_status t output = unless (BadRange when ltb output 5 ∷ []) t (gives (Done 0 5) t filling these (counts_of t))

-- "device, new R"
unfoldable pub on_link : Tables → (m : ℕ) (name : List ℕ) → Decision
unfolding word_of room_for linking
on_link t m name =
    unless
    (BadName when not (link_name_test name)
    ∷ Full when leb 16 t.known
    ∷ NoRoom when (ltb t.room (256 + m) || not (room_for t (t.room - m) (total_of t)))
    ∷ []) t
    (gives (Done t.known (t.room - m)) (linking t m (device_named name)) changing lowered m)

-- "last chain segment, EXOS boundary"
unfoldable pub on_boundary : Tables → Decision
on_boundary t = gives (Done (number_at t (last_row t)) (boundary_of t)) t changing nothing

-- "0, 0"
unfoldable pub on_set_user_boundary : Tables → (value : ℕ) → Decision
unfolding bounding
on_set_user_boundary t value =
    unless (BadBoundary when (not (sharing t) || ltb (boundary_of t) value) ∷ []) t
    (gives (Done 0 0) (bounding t value) changing nothing)

-- "segment, 16,384", its "bytes untouched"; "17 SHARED is a grant: allocate gave a shared segment, b the user boundary", which becomes the EXOS boundary
unfoldable pub on_allocate : Tables → (caller : ℕ) → Decision
unfolding granting sharing_last
on_allocate t caller =
    unless
    (BadCall when ltb 1 caller
    ∷ NoSegment when (not (some_free t) && not (may_share t caller))
    ∷ []) t
    (cond (some_free t)
    (gives (Done (number_at t (lowest_free t)) SEGMENT) (granting t caller) changing nothing)
    (gives (Shared (number_at t (last_row t)) (boundary_of t)) (sharing_last t) changing nothing))

-- "0, 0"
unfoldable pub on_free : Tables → (caller segment : ℕ) → Decision
unfolding freeing
on_free t caller segment =
    let row = row_of t segment in
    unless
    (BadCall when ltb 1 caller
    ∷ NotOwner when not (may_free t caller row)
    ∷ []) t
    (gives (Done 0 0) (freeing t row) changing nothing)

-- "0, length"
unfoldable pub on_store : Tables → (segment offset : ℕ) (bytes : List ℕ) → Decision
on_store t segment offset bytes =
    let row = row_of t segment in
    unless
    (NotOwner when not (may_reach t row)
    ∷ BadRange when ltb (reach_of t row) (offset + length bytes)
    ∷ Guarded when guarded row offset (length bytes)
    ∷ []) t
    (gives (Done 0 (length bytes)) t changing in-segment row offset bytes)

-- "0, length"
unfoldable pub on_load : Tables → (output segment offset size : ℕ) → Decision
on_load t output segment offset size =
    let row = row_of t segment in
    unless
    (NotOwner when not (may_reach t row)
    ∷ BadRange when (ltb (reach_of t row) (offset + size) || ltb output size)
    ∷ []) t
    (gives (Done 0 size) t filling from-segment row offset size)

-- where a module goes: its segment's row, the offset up to which "the user may store" there, and the start page
abbrev pub target_of : Tables → (row page : ℕ) → Target
target_of t row page = record { row = row; reach = reach_of t row; page = page }

-- order 3: "CALL also for a start page or offset past its range; OWNER for the segment"; then what the first item at fault is refused for, which is one
-- number: "19 MODULE ..; 20 PAGE ..; then RANGE ..; GUARD". "b is the bytes used, a is 0."
unfoldable pub on_load_module : Tables → (segment page offset : ℕ) (stream : List ℕ) → Decision
unfolding judged
on_load_module t segment page offset stream =
    let row = row_of t segment in
    let target = target_of t row page in
    let verdict = judged target (counter page offset) stream in
    unless
    (BadCall when (past_range page offset)
    ∷ NotOwner when not (may_reach t row)
    ∷ BadRange when eqb (refusal_of verdict) 13
    ∷ Guarded when eqb (refusal_of verdict) 14
    ∷ BadModule when eqb (refusal_of verdict) 19
    ∷ BadPage when eqb (refusal_of verdict) 20
    ∷ []) t
    (gives (Done 0 (used_of verdict)) t changing one_by_one row (puts_in page offset stream))

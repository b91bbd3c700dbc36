-- What functions within the calls ask and give: words of their contracts, no sentences of 01.
use Rattle.std.specs.Prelude.{◌≡◌, Bool, true, cond, not, ◌||◌, [], ◌∷◌, Option, Some, None, ℕ, ◌+◌, ◌-◌, ◌≤◌, ◌<◌, leb, ltb, take}
use Rattle.rows.specs.Definition.Lists.{at, first_place}
use Rattle.rows.specs.Definition.Classes.{FREE}
use Rattle.rows.specs.Definition.Good.{NameGood}
use Rattle.rows.specs.Definition.Channels.{found_at}
use Rattle.rows.specs.declared.Channel.{Channel}
use Rattle.rows.specs.declared.Device.{Device}
use Rattle.modules.specs.declared.Refusal.{Refusal as ModuleRefusal}
use Rattle.modules.specs.declared.Refusal.TheVariants.{Module, Page, Range, Guard}
use Rattle.kernel.specs.Definition.Tables.{row_of, channel_at, sharing, count_of}
use Rattle.kernel.specs.Definition.Segments.{may_reach}
use Rattle.kernel.specs.Definition.Line.{total_of, size_at, buffer_at, room_for, opening}
use Rattle.kernel.specs.Definition.Bytes.{appended}
use Rattle.kernel.specs.Definition.Answers.{gives, Decision, ◌changing◌, unless, ◌when◌}
use Rattle.line.specs.declared.Line.{Line}
use Rattle.kernel.specs.declared.bytes.Buffer.{Buffer}
use Rattle.kernel.specs.declared.Tables.{Tables}
use Rattle.kernel.specs.declared.Answer.{Answer}
use Rattle.kernel.specs.declared.Answer.TheVariants.{Done, Full, NoRoom, BadRange, Guarded, BadModule, BadPage}

-- what the code of the calls needs: the counts are within the arrays, and the chain's entries are rows
pub record Fit (t : Tables) : Type 0 where
  pub one : 1 ≤ t.segments
  pub segments : t.segments ≤ 32
  pub holds : 1 ≤ t.held
  pub held : t.held ≤ 32
  pub rows : (i : ℕ) → i < t.held → at t.chain i < 32
  pub opened : t.opened ≤ 32
  pub known : t.known ≤ 16

-- the row is one that good tables can have: a channel not open yet, and a known device
pub record New (t : Tables) (c : Channel) : Type 0 where
  pub number : c.number < 255
  pub device : c.device < t.known
  pub absent : t.opened ≤ channel_at t c.number

-- and there is room for its record
pub record HasRoom (t : Tables) (c : Channel) : Type 0 where
  pub few : t.opened < 32
  pub room : room_for t t.room (total_of t + (16 + c.n)) ≡ true

-- the segments that the line may still take: the free ones, or none where one is shared
abbrev pub spare : Tables → ℕ
spare t = cond (sharing t) 0 (count_of FREE t)

-- the row of an open channel, of a segment of the list, and of the lowest segment of a class
abbrev pub opened_at : Tables → (channel : ℕ) → Option ℕ
opened_at t channel = found_at (channel_at t channel) t.opened

abbrev pub listed_at : Tables → (segment : ℕ) → Option ℕ
listed_at t segment = found_at (row_of t segment) t.segments

abbrev pub class_row : Tables → (class : ℕ) → Option ℕ
class_row t class = found_at (first_place class (take t.segments t.classes)) t.segments

-- the line of channel RAM
abbrev pub line_of : Tables → Line
line_of t = record { chain = t.chain; room = t.room }

-- the buffer of an open channel
abbrev pub buffer_of : Tables → (channel : ℕ) → Option Buffer
buffer_of t channel =
    let i = channel_at t channel in
    cond (ltb i t.opened) (Some (record { start = buffer_at t i; size = size_at t i })) None

-- the row of a segment that the user may store to and load from
abbrev pub reached_at : Tables → (segment : ℕ) → Option ℕ
reached_at t segment = cond (may_reach t (row_of t segment)) (Some (row_of t segment)) None

-- what a module is refused for, as an answer
abbrev pub answer_for : ModuleRefusal → Answer
answer_for Module = BadModule
answer_for Page = BadPage
answer_for Range = BadRange
answer_for Guard = Guarded

-- open, once the row is known
unfoldable pub on_open_row : Tables → Channel → Decision
unfolding room_for opening
on_open_row t c =
    unless (Full when leb 32 t.opened ∷ NoRoom when not (room_for t t.room (total_of t + (16 + c.n))) ∷ []) t
    (gives (Done c.device c.unit) (opening t c) changing appended c)

-- the room rule for a device with m bytes
abbrev pub room_to_link : Tables → (m : ℕ) → Bool
room_to_link t m = not (ltb t.room (256 + m) || not (room_for t (t.room - m) (total_of t)))

-- the device is an enabled one with a name, a row is left, and there is room for m bytes
pub record Links (t : Tables) (m : ℕ) (d : Device) : Type 0 where
  pub named : NameGood d.name d.length
  pub some : 1 ≤ d.length
  pub on : d.enabled ≡ true
  pub few : t.known < 16
  pub least : 256 + m ≤ t.room
  pub room : room_for t (t.room - m) (total_of t) ≡ true

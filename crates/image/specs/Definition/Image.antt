-- The tables as bytes, in the order of their fields. Numbers are little-endian.
use Rattle.std.specs.Prelude.{Bool, true, false, not, List, [], ◌∷◌, ◌++◌, ℕ, zero, suc, ◌/◌, ◌%◌, eqb, take, drop}
use Rattle.rows.specs.declared.Channel.{Channel}
use Rattle.rows.specs.declared.Device.{Device}
use Rattle.kernel.specs.Definition.Answers.{number_of, a_of, b_of}
use Rattle.kernel.specs.declared.Tables.{Tables}
use Rattle.kernel.specs.declared.Answer.{Answer}
use Rattle.events.specs.Definition.Records.{u8_at, u16_at}
use Rattle.image.specs.Definition.Offsets.{CHANNEL-DEVICE, CHANNEL-UNIT, CHANNEL-N, CHANNEL, DEVICE-LENGTH, DEVICE-ENABLED, DEVICE}
use Rattle.image.specs.Definition.Offsets.{SEGMENTS, LIST, CLASSES, HELD, CHAIN, USER, ROOM, COLD, OPENED, CHANNELS, KNOWN, DEVICES, NAME, LENGTH, UNIT}

abbrev pub u8_bytes : ℕ → List ℕ
u8_bytes x = x ∷ []

abbrev pub u16_bytes : ℕ → List ℕ
u16_bytes x = x % 256 ∷ x / 256 ∷ []

-- the n lowest bytes, the lowest first
abbrev pub low_bytes : (n x : ℕ) → List ℕ
low_bytes zero x = []
low_bytes (suc n) x = x % 256 ∷ low_bytes n (x / 256)

unfoldable pub u32_bytes : ℕ → List ℕ
u32_bytes x = low_bytes 4 x

unfoldable pub u64_bytes : ℕ → List ℕ
u64_bytes x = low_bytes 8 x

abbrev pub bit_of : Bool → ℕ
bit_of true = 1
bit_of false = 0

-- 0 is false, any other byte true
abbrev pub flag_of : ℕ → Bool
flag_of x = not (eqb x 0)

abbrev pub run_at : (xs : List ℕ) (at n : ℕ) → List ℕ
run_at xs at n = take n (drop at xs)

-- rows one after the other
abbrev pub rows_bytes : {A : Type 0} → (A → List ℕ) → List A → List ℕ
rows_bytes row [] = []
rows_bytes row (a ∷ rest) = row a ++ rows_bytes row rest

-- n rows of so many bytes each
abbrev pub rows_of : {A : Type 0} → (List ℕ → A) → (width n : ℕ) → List ℕ → List A
rows_of row width zero xs = []
rows_of row width (suc n) xs = row xs ∷ rows_of row width n (drop width xs)

-- CHANNEL bytes
abbrev pub channel_bytes : Channel → List ℕ
channel_bytes c = u8_bytes c.number ++ u8_bytes c.device ++ u8_bytes c.unit ++ u16_bytes c.n

abbrev pub channel_from : List ℕ → Channel
channel_from xs = record { number = u8_at xs 0; device = u8_at xs CHANNEL-DEVICE; unit = u8_at xs CHANNEL-UNIT; n = u16_at xs CHANNEL-N }

-- DEVICE bytes
abbrev pub device_bytes : Device → List ℕ
device_bytes d = d.name ++ u8_bytes d.length ++ u8_bytes (bit_of d.enabled)

abbrev pub device_from : List ℕ → Device
device_from xs = record { name = take 28 xs; length = u8_at xs DEVICE-LENGTH; enabled = flag_of (u8_at xs DEVICE-ENABLED) }

-- from SEGMENTS to USER
unfoldable pub segment_bytes : Tables → List ℕ
segment_bytes t = u8_bytes t.segments ++ t.list ++ t.classes ++ u8_bytes t.held ++ t.chain

-- from USER to OPENED
unfoldable pub boundary_bytes : Tables → List ℕ
boundary_bytes t = u16_bytes t.user ++ u16_bytes t.room ++ u16_bytes t.cold

-- from OPENED to NAME
unfoldable pub row_bytes : Tables → List ℕ
row_bytes t = u8_bytes t.opened ++ rows_bytes channel_bytes t.channels ++ u8_bytes t.known ++ rows_bytes device_bytes t.devices

-- from NAME to SIZE
unfoldable pub default_bytes : Tables → List ℕ
default_bytes t = t.name ++ u8_bytes t.length ++ u8_bytes t.unit

unfoldable pub image_of : Tables → List ℕ
image_of t = segment_bytes t ++ boundary_bytes t ++ row_bytes t ++ default_bytes t

unfoldable pub tables_of : List ℕ → Tables
tables_of xs =
    record {
      segments = u8_at xs SEGMENTS;
      list = run_at xs LIST 32;
      classes = run_at xs CLASSES 32;
      held = u8_at xs HELD;
      chain = run_at xs CHAIN 32;
      user = u16_at xs USER;
      room = u16_at xs ROOM;
      cold = u16_at xs COLD;
      opened = u8_at xs OPENED;
      channels = rows_of channel_from CHANNEL 32 (drop CHANNELS xs);
      known = u8_at xs KNOWN;
      devices = rows_of device_from DEVICE 16 (drop DEVICES xs);
      name = run_at xs NAME 28;
      length = u8_at xs LENGTH;
      unit = u8_at xs UNIT;
    }

-- an answer's number and values
abbrev pub answer_bytes : Answer → List ℕ
answer_bytes a = u16_bytes (number_of a) ++ u16_bytes (a_of a) ++ u16_bytes (b_of a)

-- an answer and how many bytes the call moved, which may be more than two bytes hold
abbrev pub outcome_bytes : Answer → (moved : ℕ) → List ℕ
outcome_bytes a moved = answer_bytes a ++ u32_bytes moved

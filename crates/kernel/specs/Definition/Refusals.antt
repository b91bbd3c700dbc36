-- The refusal table, row by row, as propositions: when a row holds of a call. "Several at once: the lowest number wins."
-- That the answers of Calls.antt and Step.antt are the lowest rows that hold is proved in the crate history (Answers).
use Rattle.std.specs.Prelude.{◌≡◌, true, false, ◌≢◌, ◌⊎◌, List, ℕ, ◌+◌, ◌-◌, ◌*◌, ◌/◌, ◌%◌, ◌^◌, ◌≤◌, ◌<◌, length, get_or}
use Rattle.line.specs.Definition.Given.{given_of}
use Rattle.line.specs.Definition.Guard.{GuardedByte}
use Rattle.modules.specs.Definition.Reading.{stream_bits}
use Rattle.modules.specs.Definition.Counter.{counter}
use Rattle.modules.specs.Definition.Faults.{Refused}
use Rattle.modules.specs.declared.Refusal.{Refusal}
use Rattle.modules.specs.declared.Refusal.TheVariants.{Module, Page, Range, Guard}
use Rattle.names.specs.Definition.Grammar.{Reading, Reads}
use Rattle.names.specs.Definition.Words.{LinkName, DefaultName}
use Rattle.rows.specs.Definition.Lists.{padded}
use Rattle.rows.specs.Definition.Classes.{FREE, USER, DEVICE, SHARED}
use Rattle.rows.specs.Definition.Channels.{zero_channel}
use Rattle.rows.specs.Definition.Devices.{beyond_devices}
use Rattle.rows.specs.Definition.Sizes.{boundary_at}
use Rattle.rows.specs.Definition.Good.{ListGood, Same}
use Rattle.kernel.specs.Definition.Tables.{SEGMENT, ram_size, number_at, class_at, count_of}
use Rattle.kernel.specs.Definition.Good.{Good}
use Rattle.kernel.specs.Definition.Line.{total_of, size_at, boundary_of}
use Rattle.kernel.specs.Definition.Segments.{reach_of}
use Rattle.kernel.specs.Definition.Names.{wanted}
use Rattle.kernel.specs.declared.Wanted.{Wanted}
use Rattle.kernel.specs.Definition.Calls.{Call, start, reset, «open», close, read, write, default, status, link, set-user-boundary, allocate, free, store, load, load-module, no_call, short-start, is_start, target_of}
use Rattle.kernel.specs.declared.Tables.{Tables}

-- the channel is open, and its row is i
pub record OpenAt (t : Tables) (channel i : ℕ) : Type 0 where
  pub row : i < t.opened
  pub number : (get_or t.channels i zero_channel).number ≡ channel

-- "255, or not open"
abbrev pub NotOpen : Tables → ℕ → Type 0
NotOpen t channel = (channel ≡ 255) ⊎ ((i : ℕ) → OpenAt t channel i → ⊥)

-- the segment is in the list, and its row is row
pub record InList (t : Tables) (segment row : ℕ) : Type 0 where
  pub within : row < t.segments
  pub number : number_at t row ≡ segment

-- some segment has the class
abbrev pub HasClass : Tables → ℕ → Type 0
HasClass t class = (row : ℕ) × (row < t.segments) × (class_at t row ≡ class)

-- row i is an enabled device of the wanted name, which is not empty
pub record Enabled (t : Tables) (w : Wanted) (i : ℕ) : Type 0 where
  pub known : i < t.known
  pub named : 1 ≤ w.length
  pub enabled : (get_or t.devices i beyond_devices).enabled ≡ true
  pub same : Same (get_or t.devices i beyond_devices).name (get_or t.devices i beyond_devices).length w.name w.length

-- "Room rule", for a line of length n at the room r
pub record Room (t : Tables) (r n : ℕ) : Type 0 where
  pub apart : (HasClass t SHARED → ⊥) → n ≤ r + SEGMENT * (t.held - 1 + count_of FREE t)
  pub stays : HasClass t SHARED → n ≤ r + SEGMENT * (t.held - 1)
  pub above : HasClass t SHARED → t.user ≤ boundary_at r n

-- "the user gives back user .. or shared ..; a device gives back device"
pub data GivesBack : (caller class : ℕ) → Type 0 where
  user : GivesBack 0 USER
  shared : GivesBack 0 SHARED
  device : GivesBack 1 DEVICE

-- "Store and load reach the page zero segment and user segments .., a shared one"
abbrev pub Reached : Tables → ℕ → Type 0
Reached t row = (row ≡ 0) ⊎ ((class_at t row ≡ USER) ⊎ (class_at t row ≡ SHARED))

-- "a bit other than 4, 5, 6"
pub record OtherBit (flags k : ℕ) : Type 0 where
  pub other : (k ≢ 4) × (k ≢ 5) × (k ≢ 6)
  pub set : flags / 2 ^ k % 2 ≡ 1

-- order 3: "The first item at fault decides; at one item that order": what the stream is refused for in the segment of this row, which is one number at most
abbrev pub ModuleRefused : Tables → (row page offset : ℕ) (stream : List ℕ) → Refusal → Type 0
ModuleRefused t row page offset stream verdict = Refused (target_of t row page) (counter page offset) (stream_bits stream) verdict

abbrev pub NotStart : Call → Type 0
NotStart c = is_start c ≡ false

-- Row k of the table holds of the call c: `ram` and `output` are how many bytes are lent
pub data Row (t : Tables) (ram output : ℕ) : (c : Call) (k : ℕ) → Type 0 where
  -- 1 TABLES: "not for start: tables not good, or RAM length wrong"
  tables-bad : {c : Call} → NotStart c → ¬ Good t → Row t ram output c 1
  ram-wrong : {c : Call} → NotStart c → ram ≢ ram_size t → Row t ram output c 1
  -- 2 CALL: "kind unknown; body short of its fixed fields, or longer without name, data or list; caller not 0 or 1"
  call-unknown : Row t ram output no_call 2
  start-short : Row t ram output short-start 2
  allocate-caller : {caller : ℕ} → 1 < caller → Row t ram output (allocate caller) 2
  free-caller : {caller segment : ℕ} → 1 < caller → Row t ram output (free caller segment) 2
  -- order 3: "CALL also for a start page or offset past its range"
  module-start-page : {segment page offset : ℕ} {stream : List ℕ} → 3 < page → Row t ram output (load-module segment page offset stream) 2
  module-start-offset : {segment page offset : ℕ} {stream : List ℕ} → SEGMENT < offset → Row t ram output (load-module segment page offset stream) 2
  -- 3 CHANNEL: "255, or not open (open: 255 only)"; no u8 is beyond 255
  open-channel : {channel driver n : ℕ} {name : List ℕ} → 255 ≤ channel → Row t ram output («open» channel driver n name) 3
  close-channel : {channel : ℕ} → NotOpen t channel → Row t ram output (close channel) 3
  read-channel : {channel offset asked : ℕ} → NotOpen t channel → Row t ram output (read channel offset asked) 3
  write-channel : {channel offset : ℕ} {bytes : List ℕ} → NotOpen t channel → Row t ram output (write channel offset bytes) 3
  -- 4 EXISTS: "open: already open"
  open-exists : {channel driver n i : ℕ} {name : List ℕ} → OpenAt t channel i → Row t ram output («open» channel driver n name) 4
  -- 5 NAME: "against the rules above"
  open-name : {channel driver n : ℕ} {name : List ℕ} → ((r : Reading) → ¬ Reads name r) → Row t ram output («open» channel driver n name) 5
  link-name : {m : ℕ} {name : List ℕ} → ¬ LinkName name → Row t ram output (link m name) 5
  default-name : {unit : ℕ} {name : List ℕ} → ¬ DefaultName name → Row t ram output (default unit name) 5
  -- 6 DEVICE: "open: no enabled device so named"
  open-device : {channel driver n : ℕ} {name : List ℕ} {r : Reading} → Reads name r → ((i : ℕ) → ¬ Enabled t (wanted t r) i)
      → Row t ram output («open» channel driver n name) 6
  -- 7 DRIVER: "driver status not 0"
  open-driver : {channel driver n : ℕ} {name : List ℕ} → driver ≢ 0 → Row t ram output («open» channel driver n name) 7
  -- 8 FULL: "32 channels or 16 devices already"
  open_full : {channel driver n : ℕ} {name : List ℕ} → 32 ≤ t.opened → Row t ram output («open» channel driver n name) 8
  link-full : {m : ℕ} {name : List ℕ} → 16 ≤ t.known → Row t ram output (link m name) 8
  -- 9 ROOM: "room rule broken; link: also R-m < 256"
  open-room : {channel driver n : ℕ} {name : List ℕ} → ¬ Room t t.room (total_of t + (16 + n)) → Row t ram output («open» channel driver n name) 9
  link-low : {m : ℕ} {name : List ℕ} → t.room < 256 + m → Row t ram output (link m name) 9
  link-room : {m : ℕ} {name : List ℕ} → ¬ Room t (t.room - m) (total_of t) → Row t ram output (link m name) 9
  -- 10 SEGMENT: "nothing to allocate"
  allocate-none : {caller : ℕ} → ¬ HasClass t FREE → (caller ≢ 0) ⊎ (HasClass t SHARED ⊎ (boundary_of t ≡ 0)) → Row t ram output (allocate caller) 10
  -- 11 OWNER: "segment not the caller's to free, store or load"
  free-owner : {caller segment : ℕ} → ((row : ℕ) → InList t segment row → ¬ GivesBack caller (class_at t row)) → Row t ram output (free caller segment) 11
  store-owner : {segment offset : ℕ} {bytes : List ℕ} → ((row : ℕ) → InList t segment row → ¬ Reached t row) → Row t ram output (store segment offset bytes) 11
  load-owner : {segment offset size : ℕ} → ((row : ℕ) → InList t segment row → ¬ Reached t row) → Row t ram output (load segment offset size) 11
  module-owner : {segment page offset : ℕ} {stream : List ℕ} → ((row : ℕ) → InList t segment row → ¬ Reached t row)
      → Row t ram output (load-module segment page offset stream) 11
  -- 12 BOUNDARY: "nothing shared, or value above the EXOS boundary"
  bound-none : {value : ℕ} → ¬ HasClass t SHARED → Row t ram output (set-user-boundary value) 12
  bound-above : {value : ℕ} → boundary_of t < value → Row t ram output (set-user-boundary value) 12
  -- 13 RANGE: "offset + length past the end, or lent output too short"; order 2: "Write, store and load keep RANGE."
  write-end : {channel offset i : ℕ} {bytes : List ℕ} → OpenAt t channel i → size_at t i < offset + length bytes → Row t ram output (write channel offset bytes) 13
  status-output : output < 5 → Row t ram output status 13
  store-end : {segment offset row : ℕ} {bytes : List ℕ} → InList t segment row → reach_of t row < offset + length bytes → Row t ram output (store segment offset bytes) 13
  load-end : {segment offset size row : ℕ} → InList t segment row → reach_of t row < offset + size → Row t ram output (load segment offset size) 13
  load-output : {segment offset size : ℕ} → output < size → Row t ram output (load segment offset size) 13
  -- order 2: "read gives RANGE only where the lent output is shorter than what it would give"
  read-output : {channel offset asked i : ℕ} → OpenAt t channel i → output < given_of (size_at t i) offset asked → Row t ram output (read channel offset asked) 13
  -- order 3: "then RANGE above the user boundary", of the first item at fault
  module-range : {segment page offset row : ℕ} {stream : List ℕ} → InList t segment row → ModuleRefused t row page offset stream Range
      → Row t ram output (load-module segment page offset stream) 13
  -- 14 GUARD: "store touches page zero 30h to 5Bh, save 3Dh and 3Eh"
  store-guard : {segment offset k : ℕ} {bytes : List ℕ} → InList t segment 0 → offset ≤ k → k < offset + length bytes → GuardedByte k
      → Row t ram output (store segment offset bytes) 14
  -- order 3: "GUARD", of the first item at fault
  module-guard : {segment page offset row : ℕ} {stream : List ℕ} → InList t segment row → ModuleRefused t row page offset stream Guard
      → Row t ram output (load-module segment page offset stream) 14
  -- 15 FLAGS: "a bit other than 4, 5, 6"
  reset-flags : {flags k : ℕ} → OtherBit flags k → Row t ram output (reset flags) 15
  -- 16 START: "list, R or RAM length wrong"
  start-list : {room : ℕ} {list : List ℕ} → ¬ ListGood (padded 32 list) (length list) → Row t ram output (start room list) 16
  start-low : {room : ℕ} {list : List ℕ} → room < 256 → Row t ram output (start room list) 16
  start-high : {room : ℕ} {list : List ℕ} → 16128 < room → Row t ram output (start room list) 16
  start-ram : {room : ℕ} {list : List ℕ} → ram ≢ SEGMENT * length list → Row t ram output (start room list) 16
  -- 19 MODULE: "for an illegal item, input that runs out or bad padding"
  module-bad : {segment page offset row : ℕ} {stream : List ℕ} → InList t segment row → ModuleRefused t row page offset stream Module
      → Row t ram output (load-module segment page offset stream) 19
  -- 20 PAGE: "for a move or store outside the page"
  module-page : {segment page offset row : ℕ} {stream : List ℕ} → InList t segment row → ModuleRefused t row page offset stream Page
      → Row t ram output (load-module segment page offset stream) 20

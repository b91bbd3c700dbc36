-- Good tables, 01's sentences line by line: the parts that speak of one array.
use Rattle.std.specs.Prelude.{◌≡◌, true, false, List, ℕ, ◌+◌, ◌-◌, ◌≤◌, ◌<◌, length, get_or, take}
use Rattle.rows.specs.Definition.Lists.{at, padded, tally}
use Rattle.rows.specs.Definition.Classes.{FREE, SHARED, times_held}
use Rattle.rows.specs.Definition.Channels.{zero_channel}
use Rattle.rows.specs.Definition.Devices.{beyond_devices, VIDEO, NET, KEYBOARD}
use Rattle.rows.specs.declared.Channel.{Channel}
use Rattle.rows.specs.declared.Device.{Device}

pub record ListGood (list : List ℕ) (n : ℕ) : Type 0 where
  -- "The RAM list has 2 to 32 segment numbers"
  pub least : 2 ≤ n
  pub most : n ≤ 32
  -- "strictly rising, none in 0 to 7, the last 255"
  pub rises : (i : ℕ) → i + 1 < n → at list i < at list (i + 1)
  pub low : 7 < at list 0
  pub last : at list (n - 1) ≡ 255
  -- "Unused rows and bytes of the tables are zero"
  pub rest : (i : ℕ) → n ≤ i → i < 32 → at list i ≡ 0

pub record ClassesGood (n : ℕ) (classes : List ℕ) : Type 0 where
  -- "The first in the list is the page zero segment, outside every allocation"
  pub page : at classes 0 ≡ 0
  -- "Each other segment has one class: free, user, system, device, shared"
  pub some : (i : ℕ) → 1 ≤ i → i < n → FREE ≤ at classes i
  pub most : (i : ℕ) → i < n → at classes i ≤ SHARED
  -- "Unused rows and bytes of the tables are zero"
  pub rest : (i : ℕ) → n ≤ i → i < 32 → at classes i ≡ 0

-- the chain's entries are rows of the list
pub record ChainGood (n : ℕ) (classes chain : List ℕ) (held : ℕ) : Type 0 where
  pub holds : 1 ≤ held
  -- this follows from the next ones: the entries are rows of the list, none twice and none the page zero row, which has no class
  pub most : held ≤ 32
  -- "starts at 255", the last row; with `exact`, "255 is system or shared"
  pub starts : at chain 0 ≡ n - 1
  pub rows : (i : ℕ) → i < held → at chain i < n
  -- "the chain below is exactly the system and shared segments without a repeat"
  pub exact : (row : ℕ) → row < n → tally row (take held chain) ≡ times_held (at classes row)
  -- "at most one segment is shared", "a shared segment is the chain's last"
  pub last : (row : ℕ) → row < n → at classes row ≡ SHARED → at chain (held - 1) ≡ row
  -- "Unused rows and bytes of the tables are zero"
  pub rest : (i : ℕ) → held ≤ i → i < 32 → at chain i ≡ 0

pub record RoomGood (room cold : ℕ) : Type 0 where
  -- "256 <= R <= 16,128", its upper half by the next two
  pub least : 256 ≤ room
  -- "cold R is at least R and at most 16,128"
  pub most : room ≤ cold
  pub top : cold ≤ 16128

pub record ChannelsGood (channels : List Channel) (opened known : ℕ) : Type 0 where
  -- "At most 32 open channels, numbered 0 to 254"
  pub most : opened ≤ 32
  pub numbers : (i : ℕ) → i < opened → (get_or channels i zero_channel).number < 255
  -- "channel numbers differ"
  pub differ : (i j : ℕ) → i < j → j < opened → (get_or channels i zero_channel).number ≡ (get_or channels j zero_channel).number → ⊥
  -- "each channel names a device in the table"
  pub devices : (i : ℕ) → i < opened → (get_or channels i zero_channel).device < known
  -- "Unused rows and bytes of the tables are zero"
  pub rest : (i : ℕ) → opened ≤ i → i < 32 → get_or channels i zero_channel ≡ zero_channel

-- "names are 1 to 28 capitals (the default may be empty, with unit 0)": a name of at most 28 capitals
pub record NameGood (name : List ℕ) (n : ℕ) : Type 0 where
  pub most : n ≤ 28
  pub low : (i : ℕ) → i < n → 65 ≤ at name i
  pub high : (i : ℕ) → i < n → at name i ≤ 90
  -- "Unused rows and bytes of the tables are zero"
  pub rest : (i : ℕ) → n ≤ i → i < 28 → at name i ≡ 0

-- two names, each of 28 bytes with its length, are the same
pub record Same (a : List ℕ) (length-a : ℕ) (b : List ℕ) (length-b : ℕ) : Type 0 where
  pub long : length-a ≡ length-b
  pub bytes : (k : ℕ) → k < 28 → at a k ≡ at b k

-- "Unused rows and bytes of the tables are zero"
pub record ZeroDevice (d : Device) : Type 0 where
  pub name : (k : ℕ) → k < 28 → at d.name k ≡ 0
  pub none : d.length ≡ 0
  pub off : d.enabled ≡ false

-- device j has the name of device i
abbrev pub Alias : List Device → ℕ → ℕ → Type 0
Alias ds j i = Same (get_or ds j beyond_devices).name (get_or ds j beyond_devices).length (get_or ds i beyond_devices).name (get_or ds i beyond_devices).length

-- device i has the name s
abbrev pub Named : List Device → ℕ → List ℕ → Type 0
Named ds i s = Same (get_or ds i beyond_devices).name (get_or ds i beyond_devices).length (padded 28 s) (length s)

pub record DevicesGood (devices : List Device) (known : ℕ) : Type 0 where
  -- "16 devices. Devices 0, 1, 2 are VIDEO, NET, KEYBOARD"
  pub least : 3 ≤ known
  pub most : known ≤ 16
  pub video : Named devices 0 VIDEO
  pub net : Named devices 1 NET
  pub keyboard : Named devices 2 KEYBOARD
  -- "names are 1 to 28 capitals"
  pub some : (i : ℕ) → i < known → 1 ≤ (get_or devices i beyond_devices).length
  pub names : (i : ℕ) → i < known → NameGood (get_or devices i beyond_devices).name (get_or devices i beyond_devices).length
  -- "a device is enabled exactly if no later one has its name"
  pub off : (i j : ℕ) → i < j → j < known → Alias devices j i → (get_or devices i beyond_devices).enabled ≡ false
  pub on : (i : ℕ) → i < known → ((j : ℕ) → i < j → j < known → Alias devices j i → ⊥) → (get_or devices i beyond_devices).enabled ≡ true
  -- "Unused rows and bytes of the tables are zero"
  pub rest : (i : ℕ) → known ≤ i → i < 16 → ZeroDevice (get_or devices i beyond_devices)

pub record DefaultGood (name : List ℕ) (n unit : ℕ) : Type 0 where
  pub letters : NameGood name n
  -- "the default may be empty, with unit 0"
  pub none : n ≡ 0 → unit ≡ 0

pub record UserGood (classes : List ℕ) (last user edge : ℕ) : Type 0 where
  -- "the user boundary is at most the EXOS boundary if shared and 0 otherwise"
  pub most : user ≤ edge
  pub none : (at classes last ≡ SHARED → ⊥) → user ≡ 0

-- Good but for the chain's length and the bound on the user boundary: what holds between two steps of a change of chain.
use Rattle.std.specs.Prelude.{◌≡◌, refl, List, ℕ, ◌+◌, ◌-◌, ◌≤◌, ◌<◌, length, take}
use Rattle.std.proofs.Common.{sym, ◌∙◌, arith, length-take, get_or-take}
use Rattle.rows.specs.Definition.Lists.{first_place}
use Rattle.rows.specs.Definition.Classes.{FREE, SHARED}
use Rattle.rows.specs.Definition.Sizes.{chain_length}
use Rattle.rows.specs.Definition.Good.{ListGood, ClassesGood, ChainGood, RoomGood, ChannelsGood, DevicesGood, DefaultGood}
use Rattle.rows.specs.Laws.Counts.{first_found}
use Rattle.rows.specs.Laws.ChainRows.{counted}
use Rattle.rows.specs.declared.Channel.{Channel}
use Rattle.rows.specs.declared.Device.{Device}
use Rattle.kernel.specs.Definition.Tables.{class_at, count_of, last_row, with_segments, with_channels, with_devices}
use Rattle.kernel.specs.Definition.Line.{total_of, boundary_of}
use Rattle.kernel.specs.Definition.Good.{Sized, Good}
use Rattle.kernel.specs.declared.Tables.{Tables}

-- the chain's last segment is shared
abbrev pub Shares : Tables → Type 0
Shares t = class_at t (last_row t) ≡ SHARED

pub record Body (t : Tables) : Type 0 where
  pub sized : Sized t
  pub list : ListGood t.list t.segments
  pub classes : ClassesGood t.segments t.classes
  pub room : RoomGood t.room t.cold
  pub chain : ChainGood t.segments t.classes t.chain t.held
  pub channels : ChannelsGood t.channels t.opened t.known
  pub none : (Shares t → ⊥) → t.user ≡ 0
  pub devices : DevicesGood t.devices t.known
  pub default : DefaultGood t.name t.length t.unit

pub body : (t : Tables) → Good t → Body t
body t g = record {
  sized = g.sized;
  list = g.list;
  classes = g.classes;
  room = g.room;
  chain = g.chain;
  channels = g.channels;
  none = g.user.none;
  devices = g.devices;
  default = g.default;
}

pub whole : (t : Tables) → Body t → t.held ≡ chain_length t.room (total_of t) → t.user ≤ boundary_of t → Good t
whole t b l u = record {
  sized = b.sized;
  list = b.list;
  classes = b.classes;
  room = b.room;
  chain = b.chain;
  line = l;
  channels = b.channels;
  user = record { most = u; none = b.none };
  devices = b.devices;
  default = b.default;
}

-- the held and the free segments are fewer than all
pub body-counted : (t : Tables) → Body t → t.held + count_of FREE t < t.segments
body-counted t b =
    counted t.segments t.classes t.chain t.held b.sized.classes b.sized.chain (omega (arith, b.list.least)) b.list.most
    b.classes b.chain

-- the chain's last row is one of the list
pub last-known : (t : Tables) → Body t → last_row t < t.segments
last-known t b = b.chain.rows (t.held - 1) (omega (arith, b.chain.holds))

-- the first row of a class has it
pub first-class : (t : Tables) → Body t → (class : ℕ) → first_place class (take t.segments t.classes) < t.segments
    → class_at t (first_place class (take t.segments t.classes)) ≡ class
first-class t b class h =
    let cs = take t.segments t.classes in
    sym (get_or-take t.segments t.classes (first_place class cs) 0 h)
    ∙ first_found class cs (omega (arith, length-take t.segments t.classes, b.sized.classes, b.list.most))

-- a body with a part of it anew
pub body-segments : (t : Tables) (classes : List ℕ) (held : ℕ) (chain : List ℕ) (user : ℕ) → length classes ≡ 32 → length chain ≡ 32
    → ClassesGood t.segments classes → ChainGood t.segments classes chain held
    → ((Shares (with_segments t classes held chain user) → ⊥) → user ≡ 0) → Body t → Body (with_segments t classes held chain user)
body-segments t classes held chain user l m k c none b = record {
  sized = record { list = b.sized.list; classes = l; chain = m; channels = b.sized.channels; devices = b.sized.devices };
  list = b.list;
  classes = k;
  room = b.room;
  chain = c;
  channels = b.channels;
  none = none;
  devices = b.devices;
  default = b.default;
}

pub body-channels : (t : Tables) (opened : ℕ) (channels : List Channel) → length channels ≡ 32 → ChannelsGood channels opened t.known
    → Body t → Body (with_channels t opened channels)
body-channels t opened channels l g b = record {
  sized = record { list = b.sized.list; classes = b.sized.classes; chain = b.sized.chain; channels = l; devices = b.sized.devices };
  list = b.list;
  classes = b.classes;
  room = b.room;
  chain = b.chain;
  channels = g;
  none = b.none;
  devices = b.devices;
  default = b.default;
}

pub body-devices : (t : Tables) (room known : ℕ) (devices : List Device) → length devices ≡ 16 → RoomGood room t.cold → DevicesGood devices known
    → ChannelsGood t.channels t.opened known → Body t → Body (with_devices t room known devices)
body-devices t room known devices l r g c b = record {
  sized = record { list = b.sized.list; classes = b.sized.classes; chain = b.sized.chain; channels = b.sized.channels; devices = l };
  list = b.list;
  classes = b.classes;
  room = r;
  chain = b.chain;
  channels = c;
  none = b.none;
  devices = g;
  default = b.default;
}

-- what a change of classes, chain and user boundary leaves
pub record Keeps (t u : Tables) : Type 0 where
  pub segments : u.segments ≡ t.segments
  pub list : u.list ≡ t.list
  pub room : u.room ≡ t.room
  pub opened : u.opened ≡ t.opened
  pub channels : u.channels ≡ t.channels

pub keeps-all : (t : Tables) → Keeps t t
keeps-all t = record { segments = refl; list = refl; room = refl; opened = refl; channels = refl }

-- after a first such change
pub keeps_on : {t u : Tables} (classes : List ℕ) (held : ℕ) (chain : List ℕ) (user : ℕ) → Keeps (with_segments t classes held chain user) u → Keeps t u
keeps_on classes held chain user k = record { segments = k.segments; list = k.list; room = k.room; opened = k.opened; channels = k.channels }

pub keeps-total : {t u : Tables} → Keeps t u → total_of u ≡ total_of t
keeps-total k = rw (k.opened, k.channels)

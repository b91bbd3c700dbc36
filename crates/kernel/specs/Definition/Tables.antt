-- "The machine and its sizes": what stands in the tables, and the tables with a part of them anew.
use Rattle.std.specs.Prelude.{Bool, List, ℕ, ◌-◌, ◌*◌, ltb, take}
use Rattle.rows.specs.Definition.Lists.{at, first_place, tally}
use Rattle.rows.specs.Definition.Classes.{FREE, SHARED}
use Rattle.rows.specs.Definition.Channels.{row_in}
use Rattle.rows.specs.declared.Channel.{Channel}
use Rattle.rows.specs.declared.Device.{Device}
use Rattle.kernel.specs.declared.Tables.{Tables}

-- "Tables are a value: each call takes the tables and hands the next tables back. They hold the list, classes, system chain, user boundary, R, cold R,
-- channels in line order (number, device, unit, n), devices and default name with its unit."
-- The fields: `list` has the numbers of `segments` segments, and `classes` a class for each row of it; `chain` has rows of the list, `held` of them;
-- `user` is the user boundary, `room` is R, "the room in the system segment for channels, offsets 0 to R-1", and `cold` the cold R; "255 is the system segment", the
-- list's last row; `channels` has `opened` rows in line order, `devices` `known` rows;
-- `name`, `length` and `unit` are the default's.

-- "A segment has 16,384 bytes."
abbrev pub SEGMENT : ℕ
SEGMENT = 16384

-- "RAM is lent as one slice, 16,384 bytes a segment in list order."
abbrev pub ram_size : Tables → ℕ
ram_size t = SEGMENT * t.segments

-- the segment number in a row of the list
abbrev pub number_at : Tables → ℕ → ℕ
number_at t row = at t.list row

-- the row of a segment number, or the number of rows where the list has none such
abbrev pub row_of : Tables → ℕ → ℕ
row_of t segment = first_place segment (take t.segments t.list)

abbrev pub class_at : Tables → ℕ → ℕ
class_at t row = at t.classes row

-- how many segments have a class
abbrev pub count_of : ℕ → Tables → ℕ
count_of class t = tally class (take t.segments t.classes)

-- the row of the lowest numbered free segment, or the number of rows where none is free
abbrev pub lowest_free : Tables → ℕ
lowest_free t = first_place FREE (take t.segments t.classes)

-- a segment is shared
abbrev pub sharing : Tables → Bool
sharing t = ltb (first_place SHARED (take t.segments t.classes)) t.segments

-- the row of the chain's last segment
abbrev pub last_row : Tables → ℕ
last_row t = at t.chain (t.held - 1)

-- the row of an open channel, or the number of open channels where it is not open
abbrev pub channel_at : Tables → ℕ → ℕ
channel_at t channel = row_in (take t.opened t.channels) channel

abbrev pub with_segments : Tables → (classes : List ℕ) (held : ℕ) (chain : List ℕ) (user : ℕ) → Tables
with_segments t classes held chain user =
    record {
      segments = t.segments;
      list = t.list;
      classes = classes;
      held = held;
      chain = chain;
      user = user;
      room = t.room;
      cold = t.cold;
      opened = t.opened;
      channels = t.channels;
      known = t.known;
      devices = t.devices;
      name = t.name;
      length = t.length;
      unit = t.unit;
    }

abbrev pub with_channels : Tables → (opened : ℕ) (channels : List Channel) → Tables
with_channels t opened channels =
    record {
      segments = t.segments;
      list = t.list;
      classes = t.classes;
      held = t.held;
      chain = t.chain;
      user = t.user;
      room = t.room;
      cold = t.cold;
      opened = opened;
      channels = channels;
      known = t.known;
      devices = t.devices;
      name = t.name;
      length = t.length;
      unit = t.unit;
    }

abbrev pub with_devices : Tables → (room known : ℕ) (devices : List Device) → Tables
with_devices t room known devices =
    record {
      segments = t.segments;
      list = t.list;
      classes = t.classes;
      held = t.held;
      chain = t.chain;
      user = t.user;
      room = room;
      cold = t.cold;
      opened = t.opened;
      channels = t.channels;
      known = known;
      devices = devices;
      name = t.name;
      length = t.length;
      unit = t.unit;
    }

abbrev pub with_default : Tables → (name : List ℕ) (length unit : ℕ) → Tables
with_default t name length unit =
    record {
      segments = t.segments;
      list = t.list;
      classes = t.classes;
      held = t.held;
      chain = t.chain;
      user = t.user;
      room = t.room;
      cold = t.cold;
      opened = t.opened;
      channels = t.channels;
      known = t.known;
      devices = t.devices;
      name = name;
      length = length;
      unit = unit;
    }

-- Start: the test of what it is given, the tables after it, and the tables before any.
use Rattle.std.specs.Prelude.{Bool, ◌&&◌, List, ◌∷◌, ℕ, ◌-◌, ◌*◌, leb, eqb, length, replicate}
use Rattle.rows.specs.Definition.Lists.{padded}
use Rattle.rows.specs.Definition.Classes.{start_classes}
use Rattle.rows.specs.Definition.Channels.{zero_channel}
use Rattle.rows.specs.Definition.Devices.{zero_device, built_in}
use Rattle.rows.specs.Definition.Tests.{list_test}
use Rattle.rows.specs.declared.Device.{Device}
use Rattle.kernel.specs.Definition.Tables.{SEGMENT}
use Rattle.kernel.specs.declared.Tables.{Tables}

-- "list, R or RAM length wrong": what a start is given is right
abbrev pub start_test : (ram room : ℕ) (list : List ℕ) → Bool
start_test ram room list = list_test (padded 32 list) (length list) && leb 256 room && leb room 16128 && eqb ram (SEGMENT * length list)

-- "Start .. with no channel, devices 0 to 2, default name empty, all but page zero and 255 free." "Start fixes the cold R."
unfoldable pub started : (room : ℕ) (list : List ℕ) → Tables
started room list =
    record {
      segments = length list;
      list = padded 32 list;
      classes = start_classes (length list);
      held = 1;
      chain = (length list - 1) ∷ replicate 31 0;
      user = 0;
      room = room;
      cold = room;
      opened = 0;
      channels = replicate 32 zero_channel;
      known = 3;
      devices = built_in;
      name = replicate {A = ℕ} 28 0;
      length = 0;
      unit = 0;
    }

-- the tables "Before an accepted start": zero throughout, and not good
unfoldable pub no_tables : Tables
no_tables =
    record {
      segments = 0;
      list = replicate {A = ℕ} 32 0;
      classes = replicate {A = ℕ} 32 0;
      held = 0;
      chain = replicate {A = ℕ} 32 0;
      user = 0;
      room = 0;
      cold = 0;
      opened = 0;
      channels = replicate 32 zero_channel;
      known = 0;
      devices = replicate {A = Device} 16 zero_device;
      name = replicate {A = ℕ} 28 0;
      length = 0;
      unit = 0;
    }

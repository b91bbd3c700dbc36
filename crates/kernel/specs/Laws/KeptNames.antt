-- Link and default keep good tables.
use Rattle.std.specs.Prelude.{◌≡◌, true, List, map, ℕ, ◌+◌, ◌-◌, ◌≤◌, ◌<◌, length}
use Rattle.std.proofs.Common.{◌∙◌, arith, length-set}
use Rattle.std.proofs.lemmas.List.{length-map}
use Rattle.rows.specs.Definition.Devices.{disabled_by, added}
use Rattle.rows.specs.Definition.Good.{NameGood}
use Rattle.rows.specs.Laws.ChannelRows.{channels-known}
use Rattle.rows.specs.Laws.DeviceRows.{devices-more}
use Rattle.rows.specs.declared.Device.{Device}
use Rattle.kernel.specs.Definition.Tables.{with_devices, with_default}
use Rattle.kernel.specs.Definition.Line.{total_of, room_for}
use Rattle.kernel.specs.Definition.Devices.{linking}
use Rattle.kernel.specs.Definition.Good.{Good}
use Rattle.kernel.specs.Laws.Body.{body, body-devices}
use Rattle.kernel.specs.Laws.Facts.{no-shorter}
use Rattle.kernel.specs.Laws.KeptLine.{fill}
use Rattle.kernel.specs.declared.Tables.{Tables}

pub linking-keeps : (t : Tables) (m : ℕ) (d : Device) → Good t → t.known < 16 → NameGood d.name d.length → 1 ≤ d.length → d.enabled ≡ true → 256 + m ≤ t.room
    → room_for t (t.room - m) (total_of t) ≡ true → Good (linking t m d)
unfolding linking room_for
linking-keeps t m d g k w p on h e =
    let ds = added t.devices t.known d in
    let l : length ds ≡ 16 = length-set (map (disabled_by d.name d.length) t.devices) t.known d ∙ length-map t.devices (disabled_by d.name d.length) ∙ g.sized.devices in
    fill (with_devices t (t.room - m) (t.known + 1) ds)
    (body-devices t (t.room - m) (t.known + 1) ds l (record { least = omega arith; most = omega (arith, g.room.most); top = g.room.top })
    (devices-more t.devices t.known d g.sized.devices k w p on g.devices)
    (channels-known t.channels t.opened t.known (t.known + 1) (omega arith) g.channels) (body t g))
    (no-shorter t g (t.room - m) (total_of t) (omega arith) (omega arith))
    e

pub naming-keeps : (t : Tables) (name : List ℕ) (n unit : ℕ) → Good t → NameGood name n → 1 ≤ n → Good (with_default t name n unit)
naming-keeps t name n unit g w p =
    let z = g.sized in
    record {
      sized = record { list = z.list; classes = z.classes; chain = z.chain; channels = z.channels; devices = z.devices };
      list = g.list;
      classes = g.classes;
      room = g.room;
      chain = g.chain;
      line = g.line;
      channels = g.channels;
      user = g.user;
      devices = g.devices;
      default = record { letters = w; none = λ e. absurd (omega arith) };
    }

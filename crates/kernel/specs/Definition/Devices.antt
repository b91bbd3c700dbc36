-- "Link adds a device with m bytes of RAM".
use Rattle.std.specs.Prelude.{List, ℕ, ◌+◌, ◌-◌, length}
use Rattle.names.specs.Definition.Words.{word_of}
use Rattle.rows.specs.Definition.Devices.{new_device, added}
use Rattle.rows.specs.Definition.Sizes.{chain_length}
use Rattle.rows.specs.declared.Device.{Device}
use Rattle.kernel.specs.Definition.Tables.{with_devices}
use Rattle.kernel.specs.Definition.Line.{total_of, grown}
use Rattle.kernel.specs.declared.Tables.{Tables}

-- "R falls by m .. It appends any further chain segments by the rule above. An older device of the same name is disabled; its channels stay."
unfoldable pub linking : Tables → (m : ℕ) → Device → Tables
linking t m d =
    grown (chain_length (t.room - m) (total_of t) - t.held) (with_devices t (t.room - m) (t.known + 1) (added t.devices t.known d))

-- the device that a link of this name adds
abbrev pub device_named : (name : List ℕ) → Device
device_named name = new_device (word_of name) (length name)

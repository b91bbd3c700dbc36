-- The rows of devices: names, the devices that are built in, linking one, and the place of a device.
use Rattle.std.specs.Prelude.{Bool, true, false, not, ◌&&◌, List, [], ◌∷◌, map, ℕ, ltb, eqb, length, set, replicate}
use Rattle.rows.specs.Definition.Lists.{at, padded, up_to, first_where}
use Rattle.rows.specs.declared.Device.{Device}

-- a row with no device
abbrev pub blank_device : (name : List ℕ) → Device
blank_device name = record { name = name; length = 0; enabled = false }

-- what reading beyond the rows would give
abbrev pub beyond_devices : Device
beyond_devices = blank_device []

-- "Unused rows and bytes of the tables are zero"
abbrev pub zero_device : Device
zero_device = blank_device (replicate 28 0)

-- an enabled device: its name in 28 bytes, of which n count
abbrev pub new_device : (name : List ℕ) (n : ℕ) → Device
new_device name n = record { name = name; length = n; enabled = true }

-- the device enabled or not, and else as it was
abbrev pub enabling : Device → Bool → Device
enabling d on = record { name = d.name; length = d.length; enabled = on }

abbrev pub same_bytes : List ℕ → List ℕ → ℕ → Bool
same_bytes a b k = eqb (at a k) (at b k)

-- two names, each of 28 bytes with its length, are the same
abbrev pub same_name : List ℕ → ℕ → List ℕ → ℕ → Bool
same_name a length-a b length-b = eqb length-a length-b && up_to 28 (same_bytes a b)

-- an enabled device of this name
abbrev pub device_of : List ℕ → Device
device_of s = new_device (padded 28 s) (length s)

abbrev pub VIDEO : List ℕ
VIDEO = 86 ∷ 73 ∷ 68 ∷ 69 ∷ 79 ∷ []

abbrev pub NET : List ℕ
NET = 78 ∷ 69 ∷ 84 ∷ []

abbrev pub KEYBOARD : List ℕ
KEYBOARD = 75 ∷ 69 ∷ 89 ∷ 66 ∷ 79 ∷ 65 ∷ 82 ∷ 68 ∷ []

-- "Devices 0, 1, 2 are VIDEO, NET, KEYBOARD (build)"
abbrev pub built_in : List Device
built_in = device_of VIDEO ∷ device_of NET ∷ device_of KEYBOARD ∷ replicate {A = Device} 13 zero_device

-- "An older device of the same name is disabled": the device once one of this name is linked
abbrev pub disabled_by : List ℕ → ℕ → Device → Device
disabled_by s n d = enabling d (d.enabled && not (same_name d.name d.length s n))

-- "Link adds a device"
abbrev pub added : List Device → (known : ℕ) → Device → List Device
added ds known d = set (map (disabled_by d.name d.length) ds) known d

-- enabled and so named. "The empty default matches no device"
abbrev pub has_name : List ℕ → ℕ → Device → Bool
has_name s n d = ltb 0 n && (d.enabled && same_name d.name d.length s n)

-- the row of the first enabled device so named, or the number of rows where there is none
abbrev pub device_in : List Device → List ℕ → ℕ → ℕ
device_in ds s n = first_where (has_name s n) ds

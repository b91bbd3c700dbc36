-- "Names (section 11.1)": which device and unit a string of open means.
use Rattle.std.specs.Prelude.{Option, List, [], ◌∷◌, ℕ, length, take}
use Rattle.std.specs.Option.{unwrap_or}
use Rattle.names.specs.Definition.Grammar.{Reading}
use Rattle.names.specs.Definition.Parts.{device, unit}
use Rattle.names.specs.Definition.Words.{word_of}
use Rattle.rows.specs.Definition.Devices.{device_in}
use Rattle.kernel.specs.declared.Tables.{Tables}
use Rattle.kernel.specs.declared.Wanted.{Wanted}

-- the unit that a string gives, or another where it gives none
abbrev pub unit_or : Option ℕ → (other : ℕ) → ℕ
unit_or u other = unwrap_or u other

-- "Device: up to 28 letters, upper-cased." "Name without unit means unit 0; unit without name means the default name; neither means the default name and unit."
abbrev pub wanted_by : Tables → (letters : List ℕ) → Option ℕ → Wanted
wanted_by t [] u = record { name = t.name; length = t.length; unit = unit_or u t.unit }
wanted_by t (x ∷ xs) u = record { name = word_of (x ∷ xs); length = length (x ∷ xs); unit = unit_or u 0 }

abbrev pub wanted : Tables → Reading → Wanted
wanted t r = wanted_by t (device r) (unit r)

-- the row of the enabled device so named, or the number of devices where there is none. "Every unit count is read as zero": the unit is
-- taken as it is, where a count would be taken off it and the search go on (001, 11.1)
abbrev pub device_for : Tables → Wanted → ℕ
device_for t w = device_in (take t.known t.devices) w.name w.length

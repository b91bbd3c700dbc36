-- What a reading says, as the values of the code.
use Rattle.std.specs.Prelude.{ℕ, ◌+◌, List, [], length, Some, None}
use Rattle.std.specs.Prelude.{Option as Given}
use Rattle.std.proofs.Math.Option.{Option, none, some}
use Rattle.names.specs.Definition.Grammar.{UnitPart, no-unit, plain, dashed, Reading, file-only, full, unit-text, value}
use Rattle.names.specs.declared.Parts.{Parts}

abbrev pub device : Reading → List ℕ
device (file-only f) = []
device (full d u f) = d

abbrev pub unit_number : UnitPart → Given ℕ
unit_number no-unit = None
unit_number (plain ds) = Some (value 0 ds)
unit_number (dashed ds) = Some (value 0 ds)

abbrev pub unit : Reading → Given ℕ
unit (file-only f) = None
unit (full d u f) = unit_number u

abbrev pub file : Reading → List ℕ
file (file-only f) = f
file (full d u f) = f

abbrev pub file_at : Reading → ℕ
file_at (file-only f) = 0
file_at (full d u f) = length d + length (unit-text u) + 1

-- NAME where there is no reading
abbrev pub parts_of : Option Reading → Given Parts
parts_of none = None
parts_of (some r) = Some (record { letters = length (device r); unit = unit r; file = file_at r })

-- The strings of section 'Names' of 01: what a reading is, which string it spells, and the rules on its parts.
use Rattle.std.specs.Prelude.{ℕ, ◌+◌, ◌*◌, ◌-◌, ◌≤◌, ◌≡◌, ◌≢◌, ◌⊎◌, List, [], ◌∷◌, ◌++◌, length}

abbrev pub All : (ℕ → Type 0) → List ℕ → Type 0
All P [] = Unit {0}
All P (b ∷ bs) = P b × All P bs

-- A to Z
abbrev pub Capital : ℕ → Type 0
Capital b = (65 ≤ b) × (b ≤ 90)

-- A to Z or a to z
abbrev pub Letter : ℕ → Type 0
Letter b = Capital b ⊎ ((97 ≤ b) × (b ≤ 122))

-- 0 to 9
abbrev pub Digit : ℕ → Type 0
Digit b = (48 ≤ b) × (b ≤ 57)

-- "bytes 21h to 7Eh, no colon"
abbrev pub FileByte : ℕ → Type 0
FileByte b = (33 ≤ b) × (b ≤ 126) × (b ≢ 58)

-- '[["-"] unit]': none, digits, or a "-" and digits
pub data UnitPart : Type 0 where
  no-unit : UnitPart
  plain : (digits : List ℕ) → UnitPart
  dashed : (digits : List ℕ) → UnitPart

-- '[[device] [["-"] unit] ":"] [file]'. "With no colon the whole string is a file name." A part of no bytes is one that is left out.
pub data Reading : Type 0 where
  file-only : (file : List ℕ) → Reading
  full : (device : List ℕ) (unit : UnitPart) (file : List ℕ) → Reading

-- 45 is "-"
abbrev pub unit-text : UnitPart → List ℕ
unit-text no-unit = []
unit-text (plain ds) = ds
unit-text (dashed ds) = 45 ∷ ds

-- the string that a reading spells; 58 is ":"
abbrev pub spell : Reading → List ℕ
spell (file-only f) = f
spell (full d u f) = d ++ (unit-text u ++ (58 ∷ f))

-- the number that digits spell after `n`
abbrev pub value : ℕ → List ℕ → ℕ
value n [] = n
value n (d ∷ ds) = value (10 * n + (d - 48)) ds

-- "Device: up to 28 letters"
abbrev pub DeviceRule : List ℕ → Type 0
DeviceRule d = All Letter d × (length d ≤ 28)

-- "Unit: one or more decimal digits, value 0 to 255, leading zeros allowed."
abbrev pub DigitsRule : List ℕ → Type 0
DigitsRule ds = (1 ≤ length ds) × All Digit ds × (value 0 ds ≤ 255)

-- 'A "-" needs a unit after it.'
abbrev pub UnitRule : UnitPart → Type 0
UnitRule no-unit = Unit {0}
UnitRule (plain ds) = DigitsRule ds
UnitRule (dashed ds) = DigitsRule ds

-- "File: 0 to 28 bytes 21h to 7Eh, no colon."
abbrev pub FileRule : List ℕ → Type 0
FileRule f = All FileByte f × (length f ≤ 28)

abbrev pub Rule : Reading → Type 0
Rule (file-only f) = FileRule f
Rule (full d u f) = DeviceRule d × UnitRule u × FileRule f

-- s is a name, and r is what it says. "At most 255 bytes."
pub record Reads (s : List ℕ) (r : Reading) : Type 0 where
  pub short : length s ≤ 255
  pub rule : Rule r
  pub spelled : spell r ≡ s

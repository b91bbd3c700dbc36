-- Words for the functions within and the trait of rows: no sentences of 01.
use Rattle.std.specs.Prelude.{◌≡◌, List, ◌++◌, ℕ, length}
use Rattle.text.specs.Definition.Put.{Puts}
use Rattle.text.specs.declared.Cursor.{Cursor}
use Rattle.rows.specs.declared.Device.{Device}
use Rattle.image.specs.Definition.Offsets.{SIZE}

-- a cursor stands at an offset of an image
abbrev pub Stands : Cursor → (offset : ℕ) → Type 0
Stands c offset = (c.at ≡ offset) × (length c.text.now ≡ SIZE)

-- bytes are put up to an offset
abbrev pub Lays : Cursor → Cursor → List ℕ → (offset : ℕ) → Type 0
Lays c d xs offset = Puts c d xs × (d.at ≡ offset)

-- the bytes of a row of full size are `width`, and tell it wherever they stand
pub record Told {A : Type 0} (width : ℕ) (bytes : A → List ℕ) (from : List ℕ → A) (Full : A → Type 0) : Type 0 where
  pub long : (a : A) → Full a → length (bytes a) ≡ width
  pub back : (a : A) (zs : List ℕ) → Full a → from (bytes a ++ zs) ≡ a

-- a device's name has its 28 bytes
abbrev pub Named : Device → Type 0
Named d = length d.name ≡ 28

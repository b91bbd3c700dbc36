-- The device and the unit that a string means, as the code holds them.
use Rattle.std.specs.Prelude.{◌≡◌, Some, List, ℕ, ◌≤◌, length, take}
use Rattle.std.specs.Prelude.{Option as Given}
use Rattle.std.proofs.Math.Option.{some}
use Rattle.std.proofs.Common.{arith, length-take}
use Rattle.names.specs.Definition.Grammar.{Reading, file-only, full, Reads}
use Rattle.names.specs.Definition.Read.{reading}
use Rattle.names.specs.Laws.Right.{reading-right}
use Rattle.names.specs.Definition.Parts.{device, parts_of}
use Rattle.names.specs.Laws.Places.{parts-read}
use Rattle.names.specs.declared.Parts.{Parts}
use Rattle.kernel.specs.Definition.Names.{wanted, wanted_by}
use Rattle.kernel.specs.declared.Tables.{Tables}

-- a device's letters are few
few-letters : (s : List ℕ) (r : Reading) → Reads s r → length (device r) ≤ 28
few-letters s (file-only f) h = omega arith
few-letters s (full d u f) h = h.rule.0.1

same-wanted : (t : Tables) {a b : List ℕ} {u v : Given ℕ} → a ≡ b → u ≡ v → wanted_by t a u ≡ wanted_by t b v
same-wanted t e f = rw (e, f)

-- the letters that `parse` tells are few, and stand in the string
pub parts-few : (s : List ℕ) (parts : Parts) → parts_of (reading s) ≡ Some parts → (parts.letters ≤ 28) × (parts.letters ≤ length s)
parts-few s parts e =
    let (r, h) = parts-read s parts.letters parts.unit parts.file e in
    let p : parts_of (some r) ≡ Some parts = rw h.read at e in
    let l : length (device r) ≡ parts.letters = cc in
    let k : length (take parts.letters s) ≡ parts.letters = rw h.device-is l in
    (omega (arith, few-letters s r (reading-right s r h.read)), omega (arith, length-take parts.letters s))

-- and they mean, with the unit that it tells, what the string's reading means
pub meant : (t : Tables) (s : List ℕ) (parts : Parts) → parts_of (reading s) ≡ Some parts
    → (r : Reading) × (reading s ≡ some r) × (wanted_by t (take parts.letters s) parts.unit ≡ wanted t r)
meant t s parts e =
    let (r, h) = parts-read s parts.letters parts.unit parts.file e in
    (r, h.read, same-wanted t h.device-is h.unit-is)

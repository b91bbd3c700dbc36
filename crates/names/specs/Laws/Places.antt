-- Where the parts of a reading stand in its string, for a caller that has the numbers of Parts.
use Rattle.std.specs.Prelude.{ℕ, ◌+◌, ◌≡◌, refl, List, ◌∷◌, ◌++◌, length, take, drop, Some, None}
use Rattle.std.specs.Prelude.{Option as Given}
use Rattle.std.proofs.Common.{sym, ap, append_assoc, length-append, arith}
use Rattle.std.proofs.Math.Option.{Option, none, some}
use Rattle.std.proofs.Math.Seq.{take-append_seam, drop-append-add}
use Rattle.names.specs.Definition.Grammar.{Reading, file-only, full, unit-text, spell, Reads}
use Rattle.names.specs.Definition.Read.{reading}
use Rattle.names.specs.Laws.Right.{reading-right}
use Rattle.names.specs.Definition.Parts.{device, unit, file, file_at, parts_of}
use Rattle.names.specs.declared.Parts.{Parts}

spell-device : (r : Reading) → take (length (device r)) (spell r) ≡ device r
spell-device (file-only f) = refl
spell-device (full d u f) = take-append_seam d (unit-text u ++ (58 ∷ f))

spell-file : (r : Reading) → drop (file_at r) (spell r) ≡ file r
spell-file (file-only f) = refl
spell-file (full d u f) =
    let e : d ++ (unit-text u ++ (58 ∷ f)) ≡ d ++ unit-text u ++ (58 ∷ f) = sym (append_assoc d (unit-text u) (58 ∷ f)) in
    let n : length d + length (unit-text u) ≡ length (d ++ unit-text u) = sym (length-append d (unit-text u)) in
    rw (e, n) (drop-append-add (d ++ unit-text u) (58 ∷ f) 1)

pub device-place : (s : List ℕ) (r : Reading) → Reads s r → take (length (device r)) s ≡ device r
device-place s r h = rw (← h.spelled) (spell-device r)

pub file-place : (s : List ℕ) (r : Reading) → Reads s r → drop (file_at r) s ≡ file r
file-place s r h = rw (← h.spelled) (spell-file r)

-- what a caller of `parse` knows of each answer
pub parts-refused : (o : Option Reading) → parts_of o ≡ None → o ≡ none
parts-refused none e = refl
parts-refused (some r) e = let z : ◌≡◌ {A = ℕ} 0 1 = cc in absurd (omega arith)

-- `r` is the string's reading, and `letters`, `number` and `at` are what `parse` says of it
pub record Parted (s : List ℕ) (letters : ℕ) (number : Given ℕ) (at : ℕ) (r : Reading) : Type 0 where
  pub read : reading s ≡ some r
  pub device-is : take letters s ≡ device r
  pub unit-is : number ≡ unit r
  pub file-is : drop at s ≡ file r

pub parts-read : (s : List ℕ) (letters : ℕ) (number : Given ℕ) (at : ℕ)
    → parts_of (reading s) ≡ Some (record { letters = letters; unit = number; file = at }) → (r : Reading) × Parted s letters number at r
parts-read s letters number at e = go (reading s) refl
  where
    said : Parts
    said = record { letters = letters; unit = number; file = at }

    go : (o : Option Reading) → reading s ≡ o → (r : Reading) × Parted s letters number at r
    go none q = let f : None ≡ Some said = rw q at e in let z : ◌≡◌ {A = ℕ} 0 1 = cc in absurd (omega arith)
    go (some r) q =
        let parts : Parts = record { letters = length (device r); unit = unit r; file = file_at r } in
        let f : Some parts ≡ Some said = rw q at e in
        let g : said ≡ parts = cc in
        let h = reading-right s r q in
        let l : letters ≡ length (device r) = ap (λ (p : Parts). p.letters) g in
        let n : number ≡ unit r = ap (λ (p : Parts). p.unit) g in
        let a : at ≡ file_at r = ap (λ (p : Parts). p.file) g in
        (r, record { read = q; device-is = rw l (device-place s r h); unit-is = n; file-is = rw a (file-place s r h) })

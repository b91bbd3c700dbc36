-- Laws of bytes put and read: a run, rows, and the tables put together.
use Rattle.std.specs.Prelude.{◌≡◌, refl, List, [], ◌∷◌, ◌++◌, ℕ, zero, suc, ◌+◌, ◌*◌, ◌-◌, ◌<◌, ◌≤◌, length, get_or, take, drop, set}
use Rattle.std.proofs.Common.{sym, ap, ◌∙◌, append_assoc, append-nil, arith, add-one, length-drop, take-suc-set, take_all, drop-drop}
use Rattle.std.proofs.lemmas.List.{take_more}
use Rattle.text.specs.Definition.Put.{Put, Puts}
use Rattle.text.specs.declared.Cursor.{Cursor}
use Rattle.text.specs.Laws.Text.{puts_then}
use Rattle.image.specs.Definition.Image.{rows_bytes, rows_of}

pub puts_same : {c d : Cursor} {xs ys : List ℕ} → xs ≡ ys → Puts c d xs → Puts c d ys
puts_same h p = rw h at p

-- rows, one a turn
bytes-append : {A : Type 0} (row : A → List ℕ) (xs ys : List A) → rows_bytes row (xs ++ ys) ≡ rows_bytes row xs ++ rows_bytes row ys
bytes-append row [] ys = refl
bytes-append row (x ∷ xs) ys = rw (bytes-append row xs ys, append_assoc)

pub row_put : {A : Type 0} (row : A → List ℕ) (rows : List A) (i : ℕ) (a : A) {c d e : Cursor} → i < length rows → a ≡ get_or rows i a
    → Puts c d (rows_bytes row (take i rows)) → Puts d e (row a) → Puts c e (rows_bytes row (take (i + 1) rows))
row_put row rows i a h e p q = rw (take_more rows i a h, ← e, bytes-append, append-nil) (puts_then p q)

rows_more : {A : Type 0} (row : List ℕ → A) (width i : ℕ) (xs : List ℕ) → rows_of row width (suc i) xs ≡ rows_of row width i xs ++ (row (drop (width * i) xs) ∷ [])
rows_more row width zero xs = let z : width * 0 ≡ 0 = omega arith in rw z
rows_more {A} row width (suc i) xs =
    let e : width + width * i ≡ width * suc i = omega arith in
    ap (λ (l : List A). row xs ∷ l) (rows_more row width i (drop width xs) ∙ rw (drop-drop (width * i) width xs, e))

pub row_read : {A : Type 0} (row : List ℕ → A) (width : ℕ) (rows : List A) (xs : List ℕ) (at i : ℕ) (v : A) → i < length rows → v ≡ row (drop (at + width * i) xs)
    → take i rows ≡ rows_of row width i (drop at xs) → take (i + 1) (set rows i v) ≡ rows_of row width (i + 1) (drop at xs)
row_read row width rows xs at i v h p e =
    rw (add-one, take-suc-set rows i v h, rows_more row width i (drop at xs), drop-drop (width * i) at xs, e, p)

-- what is put from the start to the end is all there is
pub whole : {d e : List ℕ} {r : ℕ} {xs : List ℕ} → Put d e 0 r xs → length e ≤ r → e ≡ xs
whole {d} {e} {r} p h = sym (take_all r e h) ∙ p.text

-- a record's body is all of it after the kind
pub body_is : (event : List ℕ) → take (length event - 2) (drop 2 event) ≡ drop 2 event
body_is event = take_all (length event - 2) (drop 2 event) (rw length-drop (omega arith))

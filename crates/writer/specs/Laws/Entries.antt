-- A list of items three bytes at a time.
use Rattle.std.specs.Prelude.{◌≡◌, ℕ, zero, suc, ◌+◌, ◌*◌, ◌%◌, ◌<◌, min, List, [], ◌∷◌, ◌++◌, length, Result, Ok, Err}
use Rattle.std.proofs.Common.{refl, sym, ap, ◌∙◌, arith}
use Rattle.std.proofs.lemmas.List.{nil_from_length}
use Rattle.modules.specs.declared.Item.{Item}
use Rattle.modules.specs.declared.Item.TheVariants.{Restore}
use Rattle.writer.specs.Definition.Entries.{entry_of, flaw_at, Listed, all, flawed, before, listed}
use Rattle.writer.specs.Within.Entries.{entry_in, item_or, item_in, items_of, items_and_left_over, found_in}
use Rattle.writer.specs.declared.Why.{Why}
use Rattle.writer.specs.declared.Flaw.{Flaw}

-- ---- of a list of items they are its items

-- in any way to read it that takes three bytes for an item
module _ (read : List ℕ → List Item) (none : read [] ≡ []) (next : (x y z : ℕ) (bytes : List ℕ) → read (x ∷ y ∷ z ∷ bytes) ≡ item_in (x ∷ y ∷ z ∷ []) ∷ read bytes) where
  listed_by : (bytes : List ℕ) (items : List Item) → ((js : List Item) → listed bytes ≡ all js → read bytes ≡ js) → (entry : Result Item Why) (more : Listed) → listed bytes ≡ more
      → before entry more ≡ all items → item_or entry ∷ read bytes ≡ items
  listed_by bytes items known (Ok i) (all js) q e = let s = known js q in cc
  listed_by bytes items known (Ok i) (flawed f) q e = cc
  listed_by bytes items known (Err why) more q e = cc

  read-listed : (bytes : List ℕ) (items : List Item) → listed bytes ≡ all items → read bytes ≡ items
  unfolding listed
  read-listed [] items e = none ∙ (cc)
  read-listed (x ∷ []) items e = cc
  read-listed (x ∷ y ∷ []) items e = cc
  read-listed (x ∷ y ∷ z ∷ bytes) items e = next x y z bytes ∙ listed_by bytes items (read-listed bytes) (entry_of x (y + 256 * z)) (listed bytes) refl e

pub items-listed : (bytes : List ℕ) (items : List Item) → listed bytes ≡ all items → items_of bytes ≡ items
unfolding items_of
items-listed = read-listed items_of refl (λ x y z bytes. refl)

pub over-listed : (bytes : List ℕ) (items : List Item) → listed bytes ≡ all items → items_and_left_over bytes ≡ items
unfolding items_and_left_over
over-listed = read-listed items_and_left_over refl (λ x y z bytes. refl)

-- what is found to be a list has these items
pub found-items : (bytes : List ℕ) → Ok tt ≡ found_in (listed bytes) → listed bytes ≡ all (items_of bytes)
found-items bytes e = go (listed bytes) refl e
  where
    go : (l : Listed) → listed bytes ≡ l → Ok tt ≡ found_in l → listed bytes ≡ all (items_of bytes)
    go (all items) q w = q ∙ ap all (sym (items-listed bytes items q))
    go (flawed f) q w = cc

pub found-flaw : (bytes : List ℕ) (f : Flaw) → Err f ≡ found_in (listed bytes) → listed bytes ≡ flawed f
found-flaw bytes f e = go (listed bytes) refl e
  where
    go : (l : Listed) → listed bytes ≡ l → Err f ≡ found_in l → listed bytes ≡ flawed f
    go (all items) q w = cc
    go (flawed g) q w = let s : g ≡ f = cc in q ∙ ap flawed s

-- ---- three bytes, or what is left at the end, and those behind

-- the first three bytes of some, or all that there are
pub record Cuts (bytes entry rest : List ℕ) : Type 0 where
  pub are : bytes ≡ entry ++ rest
  pub three : length entry ≡ min 3 (length bytes)
  pub some : 0 < length bytes

-- as a chunk comes off
pub cuts : {n : ℕ} {bytes entry rest : List ℕ} → n ≡ 3 → (bytes ≡ entry ++ rest) × (length entry ≡ min n (length bytes)) × (0 < length bytes) → Cuts bytes entry rest
cuts e (are, three, some) = record { are = are; three = rw (← e) three; some = some }

-- the first three bytes of some
pub record Takes (bytes entry rest : List ℕ) : Type 0 where
  pub are : bytes ≡ entry ++ rest
  pub three : length entry ≡ 3

-- as a whole chunk comes off
pub takes : {n : ℕ} {bytes entry rest : List ℕ} → n ≡ 3 → (bytes ≡ entry ++ rest) × (length entry ≡ n) → Takes bytes entry rest
takes e (are, three) = record { are = are; three = three ∙ e }

-- the first that is none, where so many items stand before
abbrev pub behind : (k : ℕ) → Result Unit Flaw → Result Unit Flaw
behind k (Ok x) = Ok x
behind k (Err f) = Err (flaw_at (f.number + k) f.why)

pub behind-none : (l : Result Unit Flaw) → l ≡ behind 0 l
behind-none (Ok x) = refl
behind-none (Err f) = let e : f.number + 0 ≡ f.number = omega arith in rw e

module _ (P : List ℕ → List ℕ → List ℕ → Type 0) (one : (x : ℕ) → P (x ∷ []) (x ∷ []) []) (two : (x y : ℕ) → P (x ∷ y ∷ []) (x ∷ y ∷ []) [])
    (more : (x y z : ℕ) (rest : List ℕ) → P (x ∷ y ∷ z ∷ rest) (x ∷ y ∷ z ∷ []) rest) where
  cut_by : (entry rest : List ℕ) → length entry ≡ min 3 (length (entry ++ rest)) → 0 < length (entry ++ rest) → P (entry ++ rest) entry rest
  cut_by [] [] e h = absurd (omega arith)
  cut_by [] (x ∷ rest) e h = absurd (omega arith)
  cut_by (x ∷ []) [] e h = one x
  cut_by (x ∷ []) (y ∷ rest) e h = absurd (omega arith)
  cut_by (x ∷ y ∷ []) [] e h = two x y
  cut_by (x ∷ y ∷ []) (z ∷ rest) e h = absurd (omega arith)
  cut_by (x ∷ y ∷ z ∷ []) rest e h = more x y z rest
  cut_by (x ∷ y ∷ z ∷ w ∷ entry) rest e h = absurd (omega arith)

  cut : {bytes entry rest : List ℕ} → Cuts bytes entry rest → P bytes entry rest
  cut {bytes} {entry} {rest} c = rw c.are (cut_by entry rest (rw (← c.are) c.three) (rw (← c.are) c.some))

items_first : (entry rest : List ℕ) → length entry ≡ 3 → items_of (entry ++ rest) ≡ item_in entry ∷ items_of rest
unfolding items_of
items_first [] rest e = absurd (omega arith)
items_first (x ∷ []) rest e = absurd (omega arith)
items_first (x ∷ y ∷ []) rest e = absurd (omega arith)
items_first (x ∷ y ∷ z ∷ []) rest e = refl
items_first (x ∷ y ∷ z ∷ w ∷ entry) rest e = absurd (omega arith)

pub items-next : {bytes entry rest : List ℕ} → Takes bytes entry rest → items_of bytes ≡ item_in entry ∷ items_of rest
items-next {bytes} {entry} {rest} t = ap items_of t.are ∙ items_first entry rest t.three

pub items_none : (bytes : List ℕ) → length bytes < 3 → items_of bytes ≡ []
unfolding items_of
items_none [] h = refl
items_none (x ∷ []) h = refl
items_none (x ∷ y ∷ []) h = refl
items_none (x ∷ y ∷ z ∷ bytes) h = absurd (omega arith)

-- ---- and with what is left over

pub over-next : {bytes entry rest : List ℕ} → Cuts bytes entry rest → items_and_left_over bytes ≡ item_in entry ∷ items_and_left_over rest
unfolding items_and_left_over
over-next c = cut (λ bytes entry rest. items_and_left_over bytes ≡ item_in entry ∷ items_and_left_over rest) (λ x. refl) (λ x y. refl) (λ x y z rest. refl) c

pub over_none : (bytes : List ℕ) → length bytes ≡ 0 → items_and_left_over bytes ≡ []
unfolding items_and_left_over
over_none bytes z = rw (nil_from_length bytes z)

-- the items of so many bytes that are left over: none, or a restore
abbrev pub left_over : ℕ → List Item
left_over zero = []
left_over (suc n) = Restore ∷ []

pub over-is : (bytes : List ℕ) → items_and_left_over bytes ≡ items_of bytes ++ left_over (length bytes % 3)
unfolding items_of items_and_left_over
over-is [] = refl
over-is (x ∷ []) = refl
over-is (x ∷ y ∷ []) = refl
over-is (x ∷ y ∷ z ∷ bytes) =
    let e : length (x ∷ y ∷ z ∷ bytes) % 3 ≡ length bytes % 3 = omega arith in
    rw e (ap (λ (l : List Item). item_in (x ∷ y ∷ z ∷ []) ∷ l) (over-is bytes))

-- ---- what is found of a list

-- the first entry decides, or what is behind it
abbrev pub found_first : Result Item Why → (rest : List ℕ) → Result Unit Flaw
found_first (Ok i) rest = behind 1 (found_in (listed rest))
found_first (Err why) rest = Err (flaw_at 1 why)

found_before : (entry : Result Item Why) (rest : List ℕ) (l : Listed) → listed rest ≡ l → found_in (before entry l) ≡ found_first entry rest
found_before (Ok i) rest (all items) e = rw e
found_before (Ok i) rest (flawed f) e = rw e
found_before (Err why) rest l e = refl

pub found-next : {bytes entry rest : List ℕ} → Cuts bytes entry rest → found_in (listed bytes) ≡ found_first (entry_in entry) rest
unfolding listed
found-next c =
    cut (λ bytes entry rest. found_in (listed bytes) ≡ found_first (entry_in entry) rest) (λ x. refl) (λ x y. refl)
    (λ x y z rest. found_before (entry_of x (y + 256 * z)) rest (listed rest) refl) c

-- ---- the walk over a list

module _ {found : Result Unit Flaw} where
  module _ (k : ℕ) {bytes entry rest : List ℕ} (c : Cuts bytes entry rest) (e : found ≡ behind k (found_in (listed bytes))) where
    pub found-item : {i : Item} → entry_in entry ≡ Ok i → found ≡ behind (k + 1) (found_in (listed rest))
    found-item q = e ∙ rw (found-next c, q) (go (found_in (listed rest)))
      where
        go : (l : Result Unit Flaw) → behind k (behind 1 l) ≡ behind (k + 1) l
        go (Ok x) = refl
        go (Err f) = let e : f.number + 1 + k ≡ f.number + (k + 1) = omega arith in rw e

    pub found-no : {why : Why} → entry_in entry ≡ Err why → Err (flaw_at (k + 1) why) ≡ found
    found-no q = let n : k + 1 ≡ 1 + k = omega arith in sym (e ∙ rw (found-next c, q, ← n))

  pub found_all : (k : ℕ) (bytes : List ℕ) → length bytes ≡ 0 → found ≡ behind k (found_in (listed bytes)) → Ok tt ≡ found
  unfolding listed
  found_all k bytes z e = sym (e ∙ rw (nil_from_length bytes z))

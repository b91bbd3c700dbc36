-- What a list that the writer takes holds: numbers that fit their bits, and items without fault where the whole segment is the user's. And such items can be given to it.
use Rattle.std.specs.Prelude.{◌≡◌, refl, Bool, true, false, cond, ◌||◌, List, [], ◌∷◌, ℕ, ◌+◌, ◌*◌, ◌/◌, ◌%◌, ◌≤◌, ◌<◌, ltb, eqb, Result, Ok, Err}
use Rattle.std.proofs.Common.{sym, ap, ◌∙◌, arith, ltb-false, le-ltb}
use Rattle.std.proofs.lemmas.Bool.{false≢true}
use Rattle.rows.specs.Laws.Says.{says-no}
use Rattle.modules.specs.Definition.Items.{Fits, AllFit}
use Rattle.modules.specs.Definition.Counter.{page_size, after}
use Rattle.modules.specs.Definition.Judging.{outside}
use Rattle.modules.specs.Definition.Faults.{Outside, store, Faultless, FaultlessFrom}
use Rattle.modules.specs.Laws.Tests.{says-fails, outside-says}
use Rattle.modules.specs.declared.Item.{Item}
use Rattle.modules.specs.declared.Item.TheVariants.{Byte, Word, SetPage, Restore, Move}
use Rattle.modules.specs.declared.Counter.{Counter}
use Rattle.modules.specs.declared.Target.{Target}
use Rattle.writer.specs.Definition.Entries.{entry_of, list_bytes, Listed, all, flawed, before, listed}
use Rattle.writer.specs.Definition.Bytes.{AllBytes}
use Rattle.writer.specs.Definition.Writing.{page_above, refuses_from}
use Rattle.writer.specs.declared.Why.TheVariants.{Tag, AboveByte, Valued}
use Rattle.writer.specs.declared.Why.{Why}

-- ---- what a tag and a value can hold

-- a number of its own bits, or a page of any value
abbrev Held : Item → Type 0
Held (Byte x) = x < 256
Held (Word x) = x < 65536
Held (SetPage page) = Unit {0}
Held Restore = Unit {0}
Held (Move x) = x < 65536

abbrev HeldEntry : Result Item Why → Type 0
HeldEntry (Ok i) = Held i
HeldEntry (Err why) = Unit {0}

abbrev AllHeld : List Item → Type 0
AllHeld [] = Unit {0}
AllHeld (i ∷ items) = Held i × AllHeld items

abbrev HeldListed : Listed → Type 0
HeldListed (all items) = AllHeld items
HeldListed (flawed f) = Unit {0}

entry-held : (tag value : ℕ) → value < 65536 → HeldEntry (entry_of tag value)
unfolding entry_of
entry-held tag value h = go (eqb tag 0) (eqb tag 1) (eqb tag 2) (eqb tag 3) (eqb tag 4) (ltb 255 value) (eqb value 0) refl
  where
    go : (a b c d e above none : Bool) → ltb 255 value ≡ above
        → HeldEntry
        (cond a (cond above (Err AboveByte) (Ok (Byte value)))
        (cond b (Ok (Word value)) (cond c (Ok (SetPage value)) (cond d (cond none (Ok Restore) (Err Valued)) (cond e (Ok (Move value)) (Err Tag))))))
    go true b c d e true none q = tt
    go true b c d e false none q = let l = ltb-false 255 value q in omega arith
    go false true c d e above none q = h
    go false false true d e above none q = tt
    go false false false true e above true q = tt
    go false false false true e above false q = tt
    go false false false false true above none q = h
    go false false false false false above none q = tt

before-held : (entry : Result Item Why) (more : Listed) → HeldEntry entry → HeldListed more → HeldListed (before entry more)
before-held (Ok i) (all items) h k = (h, k)
before-held (Ok i) (flawed f) h k = tt
before-held (Err why) more h k = tt

bytes-held : (bytes : List ℕ) → AllBytes bytes → HeldListed (listed bytes)
unfolding listed
bytes-held [] small = tt
bytes-held (x ∷ []) small = tt
bytes-held (x ∷ y ∷ []) small = tt
bytes-held (x ∷ y ∷ z ∷ bytes) small =
    let low : y < 256 = small.1.0 in
    let high : z < 256 = small.1.1.0 in
    before-held (entry_of x (y + 256 * z)) (listed bytes) (entry-held x (y + 256 * z) (omega arith)) (bytes-held bytes small.1.1.1)

-- ---- what the page rule passes

-- where an item is passed, it is no page above 3 and not outside
passed_first : (start : ℕ) (c : Counter) (i : Item) (items : List Item) → refuses_from start c (i ∷ items) ≡ false
    → (page_above i ≡ false) × (outside c i ≡ false) × (refuses_from start (after start c i) items ≡ false)
unfolding refuses_from
passed_first start c i items e = go (page_above i) (outside c i) refl refl e
  where
    go : (a o : Bool) → page_above i ≡ a → outside c i ≡ o → cond (a || o) true (refuses_from start (after start c i) items) ≡ false
        → (page_above i ≡ false) × (outside c i ≡ false) × (refuses_from start (after start c i) items ≡ false)
    go true o p q w = absurd (false≢true (sym w))
    go false true p q w = absurd (false≢true (sym w))
    go false false p q w = (p, q, w)

below-fits : (i : Item) → Held i → page_above i ≡ false → Fits i
below-fits (Byte x) h e = h
below-fits (Word x) h e = h
below-fits (SetPage page) h e = let l = ltb-false 3 page e in omega arith
below-fits Restore h e = tt
below-fits (Move x) h e = h

passed-fit : (start : ℕ) (c : Counter) (items : List Item) → AllHeld items → refuses_from start c items ≡ false → AllFit items
passed-fit start c [] h e = tt
passed-fit start c (i ∷ items) h e =
    let (above, inside, more) = passed_first start c i items e in
    (below-fits i h.0 above, passed-fit start (after start c i) items h.1 more)

-- a list of bytes that is passed has items that fit
pub listed-fit : (start : ℕ) (c : Counter) (bytes : List ℕ) (items : List Item) → AllBytes bytes → listed bytes ≡ all items → refuses_from start c items ≡ false → AllFit items
listed-fit start c bytes items small e p = passed-fit start c items (rw e at (bytes-held bytes small)) p

-- and they are without fault where the segment has no guard and no boundary
pub passed-faultless : (g : Target) (c : Counter) (items : List Item) → 0 < g.row → page_size ≤ g.reach → refuses_from g.page c items ≡ false → FaultlessFrom g c items
passed-faultless g c [] row reach e = tt
passed-faultless g c (i ∷ items) row reach e =
    let (above, inside, more) = passed_first g.page c i items e in
    let within : ¬ Outside c i = says-fails (outside-says c i) inside in
    let l : Faultless g c i = record {
      inside = within;
      below = λ a. within (store a.stores (omega (arith, a.end)));
      clear = λ t. absurd (omega (arith, t.zero));
    } in
    (l, passed-faultless g (after g.page c i) items row reach more)

-- ---- and the other way round

fits_below : (i : Item) → Fits i → page_above i ≡ false
fits_below (Byte x) h = refl
fits_below (Word x) h = refl
fits_below (SetPage page) h = le-ltb 3 page (omega arith)
fits_below Restore h = refl
fits_below (Move x) h = refl

pub faultless-passed : (g : Target) (c : Counter) (items : List Item) → AllFit items → FaultlessFrom g c items → refuses_from g.page c items ≡ false
unfolding refuses_from
faultless-passed g c [] fit l = refl
faultless-passed g c (i ∷ items) fit l =
    rw (fits_below i fit.0, says-no (outside-says c i) l.0.inside) (faultless-passed g (after g.page c i) items fit.1 l.1)

-- ---- items that fit can be given as bytes

pub list-small : (items : List Item) → AllFit items → AllBytes (list_bytes items)
list-small [] fit = tt
list-small (Byte x ∷ items) fit = let h : x < 256 = fit.0 in (omega arith, (omega arith, (omega arith, list-small items fit.1)))
list-small (Word x ∷ items) fit = let h : x < 65536 = fit.0 in (omega arith, (omega arith, (omega arith, list-small items fit.1)))
list-small (SetPage page ∷ items) fit = let h : page < 4 = fit.0 in (omega arith, (omega arith, (omega arith, list-small items fit.1)))
list-small (Restore ∷ items) fit = (omega arith, (omega arith, (omega arith, list-small items fit.1)))
list-small (Move x ∷ items) fit = let h : x < 65536 = fit.0 in (omega arith, (omega arith, (omega arith, list-small items fit.1)))

halves : (x : ℕ) → x % 256 + 256 * (x / 256) ≡ x
halves x = omega arith

listed-first : (tag value : ℕ) (bytes : List ℕ) → listed (tag ∷ value % 256 ∷ value / 256 ∷ bytes) ≡ before (entry_of tag value) (listed bytes)
unfolding listed
listed-first tag value bytes = ap (λ (x : ℕ). before (entry_of tag x) (listed bytes)) (halves value)

pub list-listed : (items : List Item) → AllFit items → listed (list_bytes items) ≡ all items
unfolding listed entry_of
list-listed [] fit = refl
list-listed (Byte x ∷ items) fit =
    let h : x < 256 = fit.0 in
    listed-first 0 x (list_bytes items) ∙ rw (le-ltb 255 x (omega arith), list-listed items fit.1)
list-listed (Word x ∷ items) fit = listed-first 1 x (list_bytes items) ∙ rw (list-listed items fit.1)
list-listed (SetPage page ∷ items) fit = listed-first 2 page (list_bytes items) ∙ rw (list-listed items fit.1)
list-listed (Restore ∷ items) fit = rw (list-listed items fit.1)
list-listed (Move x ∷ items) fit = listed-first 4 x (list_bytes items) ∙ rw (list-listed items fit.1)

-- The writer refuses exactly what the refusals say, in propositions: PAGE, "then RANGE".
use Rattle.std.specs.Prelude.{◌≡◌, refl, Bool, true, false, cond, ◌||◌, ◌⊎◌, ◌↔◌, List, [], ◌∷◌, ℕ, ◌<◌, ltb, length, Result, Ok, Err}
use Rattle.std.proofs.Common.{ap, inl, inr, ⊎_elim, arith, ltb-true, lt-ltb}
use Rattle.std.proofs.lemmas.Bool.{false≢true}
use Rattle.rows.specs.Laws.Says.{Says, says-lt, says-or, says-as, says-no}
use Rattle.modules.specs.Definition.Counter.{page_size, counter, after}
use Rattle.modules.specs.Definition.Judging.{outside}
use Rattle.modules.specs.Laws.Tests.{says-fails, outside-says}
use Rattle.modules.specs.declared.Item.{Item}
use Rattle.modules.specs.declared.Item.TheVariants.{Byte, Word, SetPage, Restore, Move}
use Rattle.modules.specs.declared.Counter.{Counter}
use Rattle.writer.specs.Definition.Bytes.{module_of}
use Rattle.writer.specs.Definition.Writing.{page_above, refuses_from, refuses_page, answer_to, put_by, answer_number, written_of}
use Rattle.writer.specs.Definition.Refusals.{ItemRefused, page-above, behind, PageRefused, start-page, start-offset, item, RangeRefused}
use Rattle.writer.specs.Definition.Refusals as refusals
use Rattle.writer.specs.declared.Refusal.TheVariants.{Page, Range}
use Rattle.writer.specs.declared.Refusal.{Refusal}

-- ---- an item of the list

above-refused : (start : ℕ) (c : Counter) (i : Item) (items : List Item) → page_above i ≡ true → ItemRefused start c (i ∷ items)
above-refused start c (Byte x) items e = absurd (false≢true e)
above-refused start c (Word x) items e = absurd (false≢true e)
above-refused start c (SetPage page) items e = page-above (ltb-true 3 page e)
above-refused start c Restore items e = absurd (false≢true e)
above-refused start c (Move x) items e = absurd (false≢true e)

found-refused : (start : ℕ) (c : Counter) (items : List Item) → refuses_from start c items ≡ true → ItemRefused start c items
unfolding refuses_from
found-refused start c [] e = absurd (false≢true e)
found-refused start c (i ∷ items) e = go (page_above i) (outside c i) refl refl e (found-refused start (after start c i) items)
  where
    go : (a o : Bool) → page_above i ≡ a → outside c i ≡ o → cond (a || o) true (refuses_from start (after start c i) items) ≡ true
        → (refuses_from start (after start c i) items ≡ true → ItemRefused start (after start c i) items) → ItemRefused start c (i ∷ items)
    go true o p q w more = above-refused start c i items p
    go false true p q w more = refusals.outside ((outside-says c i).yes q)
    go false false p q w more = behind (more w)

refused-found : {start : ℕ} {c : Counter} {items : List Item} → ItemRefused start c items → refuses_from start c items ≡ true
unfolding refuses_from
refused-found {start} {c} (page-above {page = page} h) = rw (lt-ltb 3 page h)
refused-found {start} {c} (refusals.outside {i = i} {items = items} h) = go (page_above i)
  where
    go : (a : Bool) → cond (a || outside c i) true (refuses_from start (after start c i) items) ≡ true
    go true = refl
    go false = rw ((outside-says c i).make h)
refused-found {start} {c} (behind {i = i} {items = items} h) = go (page_above i || outside c i) (refused-found h)
  where
    go : (b : Bool) → refuses_from start (after start c i) items ≡ true → cond b true (refuses_from start (after start c i) items) ≡ true
    go true e = refl
    go false e = e

-- ---- 20 PAGE

page-by : {page offset : ℕ} {items : List Item} → PageRefused page offset items → ((3 < page) ⊎ (page_size < offset)) ⊎ ItemRefused page (counter page offset) items
page-by (start-page h) = inl (inl h)
page-by (start-offset h) = inl (inr h)
page-by (item h) = inr h

pub page-says : (page offset : ℕ) (items : List Item) → Says (refuses_page page offset items) (PageRefused page offset items)
unfolding refuses_page
page-says page offset items =
    says-as (says-or (says-or (says-lt 3 page) (says-lt page_size offset)) (record { yes = found-refused page (counter page offset) items; make = refused-found }))
    (⊎_elim (⊎_elim start-page start-offset) item) page-by

-- ---- exactly one answer

module _ (page offset : ℕ) (items : List Item) (room : ℕ) where
  answered : (p s : Bool) → refuses_page page offset items ≡ p → ltb room (length (module_of items)) ≡ s
      → answer_to page offset items room ≡ cond p (Err Page) (cond s (Err Range) (Ok (length (module_of items))))
  unfolding answer_to
  answered p s e q = rw (e, q)

  page-is : answer_number (answer_to page offset items room) ≡ 20 → PageRefused page offset items
  page-is e = go (refuses_page page offset items) (ltb room (length (module_of items))) refl refl
    where
      go : (p s : Bool) → refuses_page page offset items ≡ p → ltb room (length (module_of items)) ≡ s → PageRefused page offset items
      go true s p q = (page-says page offset items).yes p
      go false true p q = absurd (let z = ap answer_number (answered false true p q) in omega arith)
      go false false p q = absurd (let z = ap answer_number (answered false false p q) in omega arith)

  -- 20 exactly where an item or the start is refused
  pub page-exactly : (answer_number (answer_to page offset items room) ≡ 20) ↔ PageRefused page offset items
  page-exactly = (page-is, λ h. ap answer_number (answered true _ ((page-says page offset items).make h) refl))

  range-is : answer_number (answer_to page offset items room) ≡ 13 → RangeRefused page offset items room
  range-is e = go (refuses_page page offset items) (ltb room (length (module_of items))) refl refl
    where
      go : (p s : Bool) → refuses_page page offset items ≡ p → ltb room (length (module_of items)) ≡ s → RangeRefused page offset items room
      go true s p q = absurd (let z = ap answer_number (answered true s p q) in omega arith)
      go false true p q = record { then = says-fails (page-says page offset items) p; short = ltb-true room (length (module_of items)) q }
      go false false p q = absurd (let z = ap answer_number (answered false false p q) in omega arith)

  -- 13 exactly where they are not, and the buffer is short
  pub range-exactly : (answer_number (answer_to page offset items room) ≡ 13) ↔ RangeRefused page offset items room
  range-exactly = (
    range-is,
    λ h. ap answer_number (answered false true (says-no (page-says page offset items) h.then) (lt-ltb room (length (module_of items)) h.short)),
  )

-- a refused call gives no bytes written and leaves the buffer
pub refused-keeps : (w : Result ℕ Refusal) (items : List Item) (buffer : List ℕ) → (answer_number w ≡ 0 → ⊥) → (written_of w ≡ 0) × (put_by w items buffer ≡ buffer)
refused-keeps (Ok n) items buffer h = absurd (h refl)
refused-keeps (Err why) items buffer h = (refl, refl)

-- The page rule, as the code finds it.
use Rattle.std.specs.Prelude.{◌≡◌, Bool, ◌&&◌, ◌||◌, List, ◌∷◌, ℕ, ◌+◌, ◌<◌, ltb, length, Result, Ok, Err}
use Rattle.std.proofs.Math.Path.{refl}
use Rattle.std.proofs.Common.{sym, ap, ◌∙◌, ltb-false}
use Rattle.std.proofs.Math.Bool.{true, false, cond}
use Rattle.modules.specs.Definition.Counter.{page_size, size_of, after}
use Rattle.modules.specs.Definition.Judging.{leaves, outside}
use Rattle.modules.specs.Within.Acts.{item_act, Paged}
use Rattle.modules.specs.declared.Item.{Item}
use Rattle.modules.specs.declared.Item.TheVariants.{Byte, Word, SetPage, Restore, Move}
use Rattle.modules.specs.declared.Counter.{Counter}
use Rattle.modules.specs.declared.Refusal.{Refusal}
use Rattle.modules.specs.declared.Refusal.TheVariants.{Page, Range}
use Rattle.writer.specs.Definition.Writing.{page_above, refuses_from}
use Rattle.writer.specs.Within.Entries.{item_in, items_of}
use Rattle.writer.specs.Within.Pages.{page_act}
use Rattle.writer.specs.Laws.Entries.{Takes, items-next, items_none}

-- where the page rule passes an item, it sets a page
pub below_paged : (i : Item) (above : Bool) → above ≡ page_above i → above ≡ false → Paged i
below_paged (Byte x) above e h = tt
below_paged (Word x) above e h = tt
below_paged (SetPage page) above e h = ltb-false 3 page (sym e ∙ h)
below_paged Restore above e h = tt
below_paged (Move x) above e h = tt

-- the loader's judge refuses by the page rule alone where there is no guard and no user boundary
pub page_alone : (start : ℕ) (c : Counter) (i : Item) → page_above i ≡ false → item_act (record { row = 1; reach = 16384; page = start }) c i ≡ page_act start c i
page_alone start c i e = rw e (go (leaves c i) (ltb 0 (size_of i) && ltb page_size (c.offset + size_of i)))
  where
    go : (l a : Bool) → cond (l || a) (Err Page) (cond a (Err Range) (Ok (after start c i))) ≡ cond (l || a) (Err Page) (Ok (after start c i))
    go true a = refl
    go false true = refl
    go false false = refl

-- ---- one item of a list

module _ (start : ℕ) (c : Counter) (i : Item) (items : List Item) (act : Result Counter Refusal) (e : act ≡ page_act start c i) where
  pub refuses-next : (d : Counter) → act ≡ Ok d → refuses_from start c (i ∷ items) ≡ refuses_from start d items
  unfolding refuses_from
  refuses-next d q = go (page_above i || outside c i) (sym e ∙ q)
    where
      go : (b : Bool) → cond b (Err Page) (Ok (after start c i)) ≡ Ok d
          → cond b true (refuses_from start (after start c i) items) ≡ refuses_from start d items
      go true w = cc
      go false w = let s : after start c i ≡ d = cc in rw s

  pub refuses-halt : (why : Refusal) → act ≡ Err why → refuses_from start c (i ∷ items) ≡ true
  unfolding refuses_from
  refuses-halt why q = go (page_above i || outside c i) (sym e ∙ q)
    where
      go : (b : Bool) → cond b (Err Page) (Ok (after start c i)) ≡ Err why → cond b true (refuses_from start (after start c i) items) ≡ true
      go true w = refl
      go false w = cc

pub refuses-none : (start : ℕ) (c : Counter) (bytes : List ℕ) → length bytes < 3 → refuses_from start c (items_of bytes) ≡ false
unfolding refuses_from
refuses-none start c bytes h = rw (items_none bytes h)

-- the item that stands first, where the rest of a list is asked
module _ {bytes entry rest : List ℕ} (t : Takes bytes entry rest) (start : ℕ) (c : Counter) (i : Item) (act : Result Counter Refusal) (q : i ≡ item_in entry) (e : act ≡ page_act start c i) where
  stands : refuses_from start c (items_of bytes) ≡ refuses_from start c (i ∷ items_of rest)
  stands = ap (refuses_from start c) (items-next t ∙ rw (← q))

  pub refuses-goes : (d : Counter) → act ≡ Ok d → refuses_from start c (items_of bytes) ≡ refuses_from start d (items_of rest)
  refuses-goes d w = stands ∙ refuses-next start c i (items_of rest) act e d w

  pub refuses-stops : (why : Refusal) → act ≡ Err why → refuses_from start c (items_of bytes) ≡ true
  refuses-stops why w = stands ∙ refuses-halt start c i (items_of rest) act e why w

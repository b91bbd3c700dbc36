-- A move stays in its page by its offset alone: the page enters values and no place.
use Rattle.std.specs.Prelude.{◌≡◌, ℕ, ◌+◌, ◌*◌, ◌/◌, ◌%◌, ◌<◌, ◌≤◌, false, ◌↔◌, refl}
use Rattle.std.proofs.Common.{sym, ap, ◌∙◌, add_assoc, arith, eqb-true, eq-eqb}
use Rattle.std.proofs.Math.Nat.{mod-add-mod}
use Rattle.std.proofs.lemmas.Bool.{not-false}
use Rattle.modules.specs.Definition.Counter.{page_size, landing, after}
use Rattle.modules.specs.Definition.Judging.{leaves}
use Rattle.modules.specs.declared.Item.TheVariants.{Move}
use Rattle.modules.specs.declared.Counter.{Counter}

-- the carry out of 16 bits is dropped once or twice
lands : (c : Counter) (x : ℕ) → landing c x ≡ (c.page * page_size + (c.offset + x)) % 65536
lands c x = mod-add-mod (c.page * page_size + c.offset) 65536 x ∙ rw add_assoc

-- `s` is the offset and the 16 bits of a move
same-page : (page s : ℕ) → page ≤ 3 → (page * page_size + s) % 65536 / page_size ≡ page ↔ s % 65536 < page_size
same-page page s h = omega arith

pub move-stays : (c : Counter) (x : ℕ) → c.page ≤ 3 → leaves c (Move x) ≡ false ↔ (c.offset + x) % 65536 < 16384
move-stays c x h =
    let (to, back) = same-page c.page (c.offset + x) h in (
      λ e. to (sym (ap (λ (a : ℕ). a / page_size) (lands c x)) ∙ eqb-true (landing c x / page_size) c.page (not-false _ e)),
      λ l. rw (lands c x, eq-eqb _ _ (back l)),
    )

-- and there it goes on, in the same page
pub move-lands : (start : ℕ) (c : Counter) (x : ℕ) → c.page ≤ 3 → leaves c (Move x) ≡ false
    → ((after start c (Move x)).page ≡ c.page) × ((after start c (Move x)).offset ≡ (c.offset + x) % 65536)
move-lands start c x h e =
    let l = (move-stays c x h).0 e in
    let a = lands c x in
    let s = c.offset + x in
    let p = c.page in
    (refl, rw a (omega arith))

-- The writer's answer and what it leaves.
use Rattle.std.specs.Prelude.{◌≡◌, refl, Bool, true, false, cond, List, [], ◌∷◌, ℕ, ◌+◌, ◌*◌, ◌≤◌, ltb, length, Result, Ok, Err}
use Rattle.std.proofs.Common.{arith}
use borrow.Author.Tests.{ltb-false}
use Rattle.modules.specs.declared.Item.{Item}
use Rattle.writer.specs.Definition.Entries.{Listed, all, flawed, listed}
use Rattle.writer.specs.Definition.Bytes.{module_of}
use Rattle.writer.specs.Definition.Writing.{refuses_page, answer_to, put_by, reply_to, Writes, reply_from}
use Rattle.writer.specs.Within.Entries.{items_of}
use Rattle.writer.specs.declared.Refusal.{Refusal}
use Rattle.writer.specs.declared.Refusal.TheVariants.{Page, Range}

-- ---- of items as bytes

module _ (page offset : ℕ) (items buffer : List ℕ) where
  pub writes-list : listed items ≡ all (items_of items) → (w : Result ℕ Refusal) (buffer' : List ℕ)
      → (w ≡ answer_to page offset (items_of items) (length buffer)) × (buffer' ≡ put_by w (items_of items) buffer) → Writes page offset items buffer w buffer'
  writes-list e w buffer' h = record { reply-is = rw (e, ← h.0); buffer-is = rw (e, ← h.0) h.1 }

-- what is done is no longer than the buffer
answer-within : (page offset : ℕ) (items : List Item) (room n : ℕ) → answer_to page offset items room ≡ Ok n → n ≤ room
unfolding answer_to
answer-within page offset items room n e = go (refuses_page page offset items) (ltb room (length (module_of items))) refl e
  where
    go : (p s : Bool) → ltb room (length (module_of items)) ≡ s → cond p (Err Page) (cond s (Err Range) (Ok (length (module_of items)))) ≡ Ok n → n ≤ room
    go true s q w = absurd (let z : ◌≡◌ {A = ℕ} 0 1 = cc in omega arith)
    go false true q w = absurd (let z : ◌≡◌ {A = ℕ} 0 1 = cc in omega arith)
    go false false q w = let z : length (module_of items) ≡ n = cc in omega (arith, ltb-false room (length (module_of items)) q)

reply-within : (page offset : ℕ) (list : Listed) (room n : ℕ) → reply_to page offset list room ≡ Ok n → n ≤ room
reply-within page offset (all items) room n e = answer-within page offset items room n (cc)
reply-within page offset (flawed f) room n e = absurd (let z : ◌≡◌ {A = ℕ} 0 1 = cc in omega arith)

pub done-within : (input : List ℕ) (room n : ℕ) → reply_from input room ≡ Ok n → n ≤ room
done-within (page ∷ low ∷ high ∷ items) room n e = reply-within page (low + 256 * high) (listed items) room n e
done-within (page ∷ low ∷ []) room n e = absurd (let z : ◌≡◌ {A = ℕ} 0 1 = cc in omega arith)
done-within (page ∷ []) room n e = absurd (let z : ◌≡◌ {A = ℕ} 0 1 = cc in omega arith)
done-within [] room n e = absurd (let z : ◌≡◌ {A = ℕ} 0 1 = cc in omega arith)

-- What a word stores, as the code does it: both bytes at once.
use Rattle.std.specs.Prelude.{◌≡◌, ℕ, suc, ◌+◌, ◌/◌, ◌%◌, ◌≤◌, List, [], ◌∷◌, length, take, drop}
use Rattle.std.proofs.Common.{sym, add-one, ap₂, ◌∙◌, append_assoc, arith, length-set}
use Rattle.std.proofs.lemmas.List.Edits.{sets, sets-eq}
use Rattle.std.specs.Int.{w16, to_le_bytes}
use Rattle.line.specs.Definition.Ram.{put_at}
use Rattle.modules.specs.Definition.Counter.{page_size, size_of, relocated, puts_at, put_each}
use Rattle.modules.specs.declared.Item.{Item}
use Rattle.modules.specs.declared.Item.TheVariants.{Word}
use Rattle.modules.specs.declared.Counter.{Counter}

-- bytes put are elements set one by one
sets-put : (xs ram : List ℕ) (at : ℕ) → at + length xs ≤ length ram → sets ram at xs ≡ put_at ram at xs
unfolding put_at
sets-put xs ram at h = sets-eq xs ram at h ∙ append_assoc (take at ram) xs (drop (at + length xs) ram)

-- two bytes one after the other
put-two : (ram : List ℕ) (at a b : ℕ) → at + 2 ≤ length ram → put_at ram at (a ∷ b ∷ []) ≡ put_at (put_at ram at (a ∷ [])) (at + 1) (b ∷ [])
put-two ram at a b h =
    let first = sets-put (a ∷ []) ram at (omega arith) in
    let n = length-set ram at a in
    let second = sets-put (b ∷ []) (sets ram at (a ∷ [])) (suc at) (omega arith) in
    sym (sets-put (a ∷ b ∷ []) ram at h) ∙ rw (add-one, ← first) second

module _ (c : Counter) (i : Item) (x w : ℕ) (ram ram' : List ℕ) (base from : ℕ) where
  pub word-put : i ≡ Word x → c.offset + size_of i ≤ page_size → base + page_size ≤ length ram → from ≡ c.offset → w ≡ relocated c x
      → ram' ≡ put_at ram (base + from) (to_le_bytes w16 w) → ram' ≡ put_each base ram (puts_at c i)
  word-put e inside room f z q =
      let h : c.offset + 2 ≤ page_size = rw e at inside in
      let bytes : to_le_bytes w16 w ≡ w % 256 ∷ w / 256 ∷ [] = ap₂ (λ (a b : ℕ). a ∷ b ∷ []) (omega arith) (omega arith) in
      let s : base + (c.offset + 1) ≡ base + c.offset + 1 = omega arith in
      q ∙ rw (bytes, e, ← z, s, f) (put-two ram (base + c.offset) (w % 256) (w / 256) (omega arith))

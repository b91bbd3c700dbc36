-- Two RAMs of one length into which the same bytes are put: at an index they come to have the same byte, or neither is changed there.
use Rattle.std.specs.Prelude.{◌≡◌, Bool, true, false, cond, ◌||◌, length, get_or, set, replicate}
use Rattle.std.proofs.Math.Path.{refl, ap}
use Rattle.std.proofs.Common.{sym, ◌∙◌, add-zero, not-suc-le-zero, arith, length-set, get_or-set_same, get_or-set_other}
use mathlib.Core.List.{List, [], ◌∷◌}
use Prim.Native.Nat.{ℕ, zero, suc, ◌+◌, ◌-◌, ◌≤◌, ◌<◌}
use Rattle.std.proofs.Math.Decide.{dec_le, dec_lt, ℕ_discrete}
use Rattle.std.proofs.Math.ListN.{get_or-eq_default}
use Rattle.line.specs.Definition.Line.{place_of, put_line}
use Rattle.line.specs.Definition.Ram.{put_from, put_at}
use Rattle.line.specs.Laws.Walks.{length-put}
use Rattle.modules.specs.Definition.Counter.{Put, put_each}
use Rattle.modules.specs.Laws.Stored.{Below}
use Rattle.kernel.specs.Definition.Line.{total_of}
use Rattle.kernel.specs.Definition.Segments.{may_reach, reach_of}
use Rattle.kernel.specs.Definition.Reset.{bit4, bit5}
use Rattle.kernel.specs.Definition.Bytes.{ram_reset, segment_at}
use Rattle.kernel.specs.Laws.Ready.{Ready}
use Rattle.kernel.specs.declared.Tables.{Tables}
use Rattle.history.specs.Bytes.Patched.{patched, patched_in, patched-not, put-at-is}
use Rattle.history.specs.Bytes.Steps.{store-fits, byte-ready}

-- they stay of one length
set-sizes : (a b : List ℕ) (j x : ℕ) → length a ≡ length b → length (set a j x) ≡ length (set b j x)
set-sizes a b j x l = length-set a j x ∙ l ∙ sym (length-set b j x)

pub put-sizes : (walk : ℕ → ℕ) (xs a b : List ℕ) (p : ℕ) → length a ≡ length b → length (put_from walk a p xs) ≡ length (put_from walk b p xs)
put-sizes walk xs a b p l = length-put walk xs a p ∙ l ∙ sym (length-put walk xs b p)

-- two bytes that become two others: these are the same, or both are as they were
pub data Settled (x y x₁ y₁ : ℕ) : Type 0 where
  same : x₁ ≡ y₁ → Settled x y x₁ y₁
  left : x₁ ≡ x → y₁ ≡ y → Settled x y x₁ y₁

-- one change after the other
pub settled_on : {x y x₁ y₁ x₂ y₂ : ℕ} → Settled x y x₁ y₁ → Settled x₁ y₁ x₂ y₂ → Settled x y x₂ y₂
settled_on first (same e) = same e
settled_on (same e) (left p q) = same (p ∙ e ∙ sym q)
settled_on (left v w) (left p q) = left (p ∙ v) (q ∙ w)

-- what was the same stays the same
pub settled_same : {x y x₁ y₁ : ℕ} → Settled x y x₁ y₁ → x ≡ y → x₁ ≡ y₁
settled_same (same e) f = e
settled_same (left p q) f = p ∙ f ∙ sym q

-- the bytes at an index of two RAMs, and of what becomes of these
abbrev pub SettledAt : (i : ℕ) → (a b a₁ b₁ : List ℕ) → Type 0
SettledAt i a b a₁ b₁ = Settled (get_or a i 0) (get_or b i 0) (get_or a₁ i 0) (get_or b₁ i 0)

module _ (i : ℕ) where
  set_here : (a b : List ℕ) (x : ℕ) → length a ≡ length b → get_or (set a i x) i 0 ≡ get_or (set b i x) i 0
  set_here a b x l =
      elim (dec_lt i (length a)) [
        | yes h ↦ get_or-set_same a i x 0 h ∙ sym (get_or-set_same b i x 0 (omega arith))
        | no h ↦ get_or-eq_default (set a i x) 0 (omega (arith, length-set a i x)) ∙ sym (get_or-eq_default (set b i x) 0 (omega (arith, length-set b i x)))
      ]

  set-settles : (a b : List ℕ) (j x : ℕ) → length a ≡ length b → SettledAt i a b (set a j x) (set b j x)
  set-settles a b j x l =
      elim (ℕ_discrete i j) [
        | yes q ↦ same (rw (← q) (set_here a b x l))
        | no q ↦ left (get_or-set_other a j i x 0 q) (get_or-set_other b j i x 0 q)
      ]

  -- along a walk: any index, and one that the walk comes to
  module _ (walk : ℕ → ℕ) where
    pub put-settles : (xs a b : List ℕ) (p : ℕ) → length a ≡ length b → SettledAt i a b (put_from walk a p xs) (put_from walk b p xs)
    unfolding put_from
    put-settles [] a b p l = left refl refl
    put-settles (x ∷ xs) a b p l =
        settled_on (set-settles a b (walk p) x l)
        (put-settles xs (set a (walk p) x) (set b (walk p) x) (p + 1) (set-sizes a b (walk p) x l))

    pub put-there : (xs a b : List ℕ) (p k : ℕ) → length a ≡ length b → k < length xs → i ≡ walk (p + k)
        → get_or (put_from walk a p xs) i 0 ≡ get_or (put_from walk b p xs) i 0
    unfolding put_from
    put-there [] a b p k l h e = absurd (not-suc-le-zero h)
    put-there (x ∷ xs) a b p zero l h e =
        let here : i ≡ walk p = e ∙ ap walk (add-zero p) in
        settled_same
        (put-settles xs (set a (walk p) x) (set b (walk p) x) (p + 1) (set-sizes a b (walk p) x l)) (rw (← here) (set_here a b x l))
    put-there (x ∷ xs) a b p (suc k) l h e =
        put-there xs (set a (walk p) x) (set b (walk p) x) (p + 1) k (set-sizes a b (walk p) x l) (omega arith) (e ∙ ap walk (omega arith))

  -- side by side, as a store puts them
  pub store-settles : (a b : List ℕ) (here : ℕ) (xs : List ℕ) → here + length xs ≤ length b → length a ≡ length b → SettledAt i a b (put_at a here xs) (put_at b here xs)
  store-settles a b here xs fits l =
      let on : get_or (put_at a here xs) i 0 ≡ patched here xs i (get_or a i 0) = put-at-is a here xs i (omega arith) in
      let off : get_or (put_at b here xs) i 0 ≡ patched here xs i (get_or b i 0) = put-at-is b here xs i fits in
      elim (dec_le here i) [
        | yes h ↦ elim (dec_lt i (here + length xs)) [
          | yes k ↦ same (on ∙ patched_in here xs i (get_or a i 0) h k ∙ sym (off ∙ patched_in here xs i (get_or b i 0) h k))
          | no k ↦ left (on ∙ patched-not here xs i (get_or a i 0) (λ _ q. k q)) (off ∙ patched-not here xs i (get_or b i 0) (λ _ q. k q))
        ]
        | no h ↦ left (on ∙ patched-not here xs i (get_or a i 0) (λ q _. h q)) (off ∙ patched-not here xs i (get_or b i 0) (λ q _. h q))
      ]

  -- one by one, as a load of a module puts them
  pub each_settles : (t : Tables) (row : ℕ) → may_reach t row ≡ true → (a b : List ℕ) (puts : List Put) → Ready t (length b) → length a ≡ length b
      → Below (reach_of t row) puts → SettledAt i a b (put_each (segment_at row) a puts) (put_each (segment_at row) b puts)
  each_settles t row m a b [] r l h = left refl refl
  each_settles t row m a b (p ∷ puts) r l (low, h) =
      let at = segment_at row + p.offset in
      let next = byte-ready t row m b p r low in
      let other = byte-ready t row m a p (rw l r) low in
      settled_on
      (store-settles a b at (p.byte ∷ []) (store-fits t b row p.offset 1 r m (omega arith)) l)
      (each_settles t row m (put_at a at (p.byte ∷ [])) (put_at b at (p.byte ∷ [])) puts next (other.size ∙ sym next.size) h)

  -- zeros, as a reset puts them
  module _ (t : Tables) (a b : List ℕ) (l : length a ≡ length b) where
    abbrev emptied : List ℕ → List ℕ
    emptied ram = put_line t.chain t.room ram 0 (replicate (total_of t) 0)

    abbrev gained : List ℕ → List ℕ
    gained ram = put_line t.chain t.cold ram 0 (replicate (t.cold - t.room) 0)

    emptied-settles : SettledAt i a b (emptied a) (emptied b)
    emptied-settles = put-settles (place_of t.chain t.room) _ a b 0 l

    gained-settles : SettledAt i a b (gained (emptied a)) (gained (emptied b))
    gained-settles =
        settled_on emptied-settles
        (put-settles (place_of t.chain t.cold) _ (emptied a) (emptied b) 0 (put-sizes (place_of t.chain t.room) _ a b 0 l))

    by_flags : (four five : Bool) → SettledAt i a b (let x = cond (four || five) (emptied a) a in cond five (gained x) x) (let x = cond (four || five) (emptied b) b in cond five (gained x) x)
    by_flags true true = gained-settles
    by_flags true false = emptied-settles
    by_flags false true = gained-settles
    by_flags false false = left refl refl

    pub reset-settles : (flags : ℕ) → SettledAt i a b (ram_reset t a flags) (ram_reset t b flags)
    reset-settles flags = by_flags (bit4 flags) (bit5 flags)

-- The byte last written, the byte last stored and the size last opened with: of each history there is one, computed by its calls.
use Rattle.std.specs.Prelude.{◌≡◌, Bool, cond, ◌⊎◌, ℕ, ◌+◌, ◌-◌, ◌≤◌, ◌<◌, eqb, length, get_or}
use Rattle.std.proofs.Math.Path.{refl}
use Rattle.std.proofs.Common.{sym, ap, ◌∙◌, arith, eq-eqb, ne_eqb}
use Rattle.std.proofs.Math.Bool.{true, false}
use mathlib.Core.List.{List, [], ◌∷◌}
use Rattle.std.proofs.Math.Logic.{inl, inr}
use Rattle.std.proofs.Math.Decide.{ℕ_discrete, dec_le, dec_lt}
use Rattle.modules.specs.Definition.Judging.{puts_in}
use Rattle.kernel.specs.Definition.Answers.{granted}
use Rattle.kernel.specs.Definition.Calls.{Call, start, reset, «open», close, read, write, default, status, link, boundary, set-user-boundary, allocate, free, store, load, load-module, no_call, short-start}
use Rattle.history.specs.Definition.Runs.{Event, History, Last, never, now, before, Writes, opened, wrote, LastWritten, Stores, put, loaded, LastStored, Sizes, sized, LastSize}
use Rattle.history.specs.Bytes.Patched.{patched, patched_in, patched-not}
use Rattle.history.specs.Bytes.Each.{patched_each, each_none, each_last, each-kinds}

-- one byte is the last
pub last_one : {Makes : Event → ℕ → Type 0} {first : ℕ} → ((e : Event) (x y : ℕ) → Makes e x → Makes e y → x ≡ y) → {h : History} {x y : ℕ}
    → Last Makes first h x → Last Makes first h y → x ≡ y
last_one one never never = refl
last_one one (now {e} m) (now n) = one e _ _ m n
last_one one (now m) (before none l) = absurd (none _ m)
last_one one (before none l) (now m) = absurd (none _ m)
last_one one (before none l) (before none' l') = last_one one l l'

-- ---- what of a call counts for the bytes: an open, a write, a store, a load of a module, or nothing that does

pub data Deed : Call → Type 0 where
  opens : (channel driver n : ℕ) (name : List ℕ) → Deed («open» channel driver n name)
  writes : (channel offset : ℕ) (bytes : List ℕ) → Deed (write channel offset bytes)
  stores : (segment offset : ℕ) (bytes : List ℕ) → Deed (store segment offset bytes)
  loads : (segment page offset : ℕ) (stream : List ℕ) → Deed (load-module segment page offset stream)
  other : (c : Call) → Deed c

abbrev pub deed : (c : Call) → Deed c
deed (start room list) = other (start room list)
deed (reset flags) = other (reset flags)
deed («open» channel driver n name) = opens channel driver n name
deed (close channel) = other (close channel)
deed (read channel offset asked) = other (read channel offset asked)
deed (write channel offset bytes) = writes channel offset bytes
deed (default unit name) = other (default unit name)
deed status = other status
deed (link m name) = other (link m name)
deed boundary = other boundary
deed (set-user-boundary value) = other (set-user-boundary value)
deed (allocate caller) = other (allocate caller)
deed (free caller segment) = other (free caller segment)
deed (store segment offset bytes) = stores segment offset bytes
deed (load segment offset size) = other (load segment offset size)
deed (load-module segment page offset stream) = loads segment page offset stream
deed no_call = other no_call
deed short-start = other short-start

-- Of a number that some deeds make anew: which do (`kinds`), and what they make of it (`makes`). Then one is the last, and it is computed.
module _ (Makes : Event → ℕ → Type 0) (by : (c : Call) → Deed c → ℕ → ℕ)
    (makes : (e : Event) (x : ℕ) → Makes e x → (granted e.answer ≡ true) × ((old : ℕ) → by e.call (deed e.call) old ≡ x))
    (kinds : (c : Call) (d : Deed c) → ((e : Event) → e.call ≡ c → granted e.answer ≡ true → (x : ℕ) × Makes e x) ⊎ ((old : ℕ) → by c d old ≡ old)) where
  made : Event → ℕ → ℕ
  made e old = cond (granted e.answer) (by e.call (deed e.call) old) old

  made-is : (e : Event) (x : ℕ) → Makes e x → (old : ℕ) → made e old ≡ x
  unfolding made
  made-is e x m old = let (g, q) = makes e x m in rw g (q old)

  event-kinds : (e : Event) → ((x : ℕ) × Makes e x) ⊎ ((old : ℕ) → made e old ≡ old)
  unfolding made
  event-kinds e = go (granted e.answer) refl
    where
      go : (b : Bool) → granted e.answer ≡ b → ((x : ℕ) × Makes e x) ⊎ ((old : ℕ) → made e old ≡ old)
      go false g = inr (λ old. rw g)
      go true g = elim (kinds e.call (deed e.call)) [ inl f ↦ inl (f e refl g) | inr q ↦ inr (λ old. rw g (q old)) ]

  none_made : (e : Event) → ((old : ℕ) → made e old ≡ old) → (y : ℕ) → ¬ Makes e y
  none_made e q y m = let z : ◌≡◌ {A = ℕ} 0 1 = sym (q 0) ∙ made-is e y m 0 ∙ sym (made-is e y m 1) ∙ q 1 in omega arith

  pub last_made : {first : ℕ} (e : Event) (h : History) (old : ℕ) → Last Makes first h old
      → Last Makes first (e ∷ h) (cond (granted e.answer) (by e.call (deed e.call) old) old)
  unfolding made
  last_made e h old l = elim (event-kinds e) [
    | inl (x, m) ↦ rw (made-is e x m old) (now m)
    | inr q ↦ rw (q old) (before (none_made e q) l)
  ]

  pub one-made : {first : ℕ} {h : History} {x y : ℕ} → Last Makes first h x → Last Makes first h y → x ≡ y
  one-made = last_one (λ e x y m n. sym (made-is e x m 0) ∙ made-is e y n 0)

-- bytes put from an offset on reach a byte, or leave it
reached : (offset : ℕ) (bytes : List ℕ) (k : ℕ) → ((offset ≤ k) × (k < offset + length bytes)) ⊎ ((old : ℕ) → patched offset bytes k old ≡ old)
reached offset bytes k =
    elim (dec_le offset k) [
      | yes a ↦ elim (dec_lt k (offset + length bytes)) [ yes b ↦ inl (a, b) | no b ↦ inr (λ old. patched-not offset bytes k old (λ _ y. b y)) ]
      | no a ↦ inr (λ old. patched-not offset bytes k old (λ x _. a x))
    ]

-- ---- a channel's byte

-- what a done call makes of byte k of a channel's buffer, which was `old`: an open of the channel makes it zero, a write through it what is written there
abbrev written_by : (channel k : ℕ) (c : Call) → Deed c → (old : ℕ) → ℕ
written_by channel k c (opens d driver n name) old = cond (eqb d channel) 0 old
written_by channel k c (writes d offset bytes) old = cond (eqb d channel) (patched offset bytes k old) old
written_by channel k c (stores segment offset bytes) old = old
written_by channel k c (loads segment page offset stream) old = old
written_by channel k c (other _) old = old

unfoldable pub written : Call → (channel k old : ℕ) → ℕ
unfolding patched
written c channel k old = written_by channel k c (deed c) old

-- the byte last written, computed
unfoldable pub last_written : History → (channel k : ℕ) → ℕ
unfolding written
last_written [] channel k = 0
last_written (e ∷ h) channel k = cond (granted e.answer) (written e.call channel k (last_written h channel k)) (last_written h channel k)

module _ (channel k : ℕ) where
  writes-it : (e : Event) (x : ℕ) → Writes channel k e x → (granted e.answer ≡ true) × ((old : ℕ) → written_by channel k e.call (deed e.call) old ≡ x)
  writes-it e x (opened g c) = (g, λ old. rw (c, eq-eqb channel channel refl))
  writes-it e x (wrote {offset} {bytes} g c a b) = (g, λ old. rw (c, eq-eqb channel channel refl) (patched_in offset bytes k old a b))

  write-kinds : (c : Call) (d : Deed c)
      → ((e : Event) → e.call ≡ c → granted e.answer ≡ true → (x : ℕ) × Writes channel k e x) ⊎ ((old : ℕ) → written_by channel k c d old ≡ old)
  write-kinds _ (opens d driver n name) =
      elim (ℕ_discrete d channel) [
        | yes q ↦ inl (λ e c g. (0, opened {driver = driver} {n = n} {name = name} g (c ∙ ap (λ (x : ℕ). «open» x driver n name) q)))
        | no q ↦ inr (λ old. rw (ne_eqb d channel q))
      ]
  write-kinds _ (writes d offset bytes) =
      elim (ℕ_discrete d channel) [
        | yes q ↦ elim (reached offset bytes k) [
          | inl (a, b) ↦ inl (λ e c g. (get_or bytes (k - offset) 0, wrote g (c ∙ ap (λ (x : ℕ). write x offset bytes) q) a b))
          | inr p ↦ inr (λ old. rw (eq-eqb d channel q) (p old))
        ]
        | no q ↦ inr (λ old. rw (ne_eqb d channel q))
      ]
  write-kinds _ (stores segment offset bytes) = inr (λ old. refl)
  write-kinds _ (loads segment page offset stream) = inr (λ old. refl)
  write-kinds _ (other c) = inr (λ old. refl)

  pub last_written_lem : (h : History) → LastWritten channel k h (last_written h channel k)
  unfolding last_written
  last_written_lem [] = never
  last_written_lem (e ∷ h) = last_made (Writes channel k) (written_by channel k) writes-it write-kinds e h (last_written h channel k) (last_written_lem h)

  pub written_one : {h : History} {x y : ℕ} → LastWritten channel k h x → LastWritten channel k h y → x ≡ y
  written_one = one-made (Writes channel k) (written_by channel k) writes-it write-kinds

-- ---- a user's byte

-- what a done call makes of the byte at an offset of a segment, which was `old`, while that place stays the user's: a store there puts its byte, a
-- load of a module the last of its bytes there
abbrev stored_by : (segment k : ℕ) (c : Call) → Deed c → (old : ℕ) → ℕ
stored_by segment k c (opens channel driver n name) old = old
stored_by segment k c (writes channel offset bytes) old = old
stored_by segment k c (stores d offset bytes) old = cond (eqb d segment) (patched offset bytes k old) old
stored_by segment k c (loads d page offset stream) old = cond (eqb d segment) (patched_each (puts_in page offset stream) k old) old
stored_by segment k c (other _) old = old

unfoldable pub stored : Call → (segment k old : ℕ) → ℕ
unfolding patched patched_each
stored c segment k old = stored_by segment k c (deed c) old

-- the byte last stored, computed
unfoldable pub last_stored : History → (segment k first : ℕ) → ℕ
unfolding stored
last_stored [] segment k first = first
last_stored (e ∷ h) segment k first =
    cond (granted e.answer) (stored e.call segment k (last_stored h segment k first)) (last_stored h segment k first)

module _ (segment k : ℕ) where
  stores-it : (e : Event) (x : ℕ) → Stores segment k e x → (granted e.answer ≡ true) × ((old : ℕ) → stored_by segment k e.call (deed e.call) old ≡ x)
  stores-it e x (put {offset} {bytes} g c a b) = (g, λ old. rw (c, eq-eqb segment segment refl) (patched_in offset bytes k old a b))
  stores-it e x (loaded g c l) = (g, λ old. rw (c, eq-eqb segment segment refl) (each_last l old))

  store-kinds : (c : Call) (d : Deed c)
      → ((e : Event) → e.call ≡ c → granted e.answer ≡ true → (x : ℕ) × Stores segment k e x) ⊎ ((old : ℕ) → stored_by segment k c d old ≡ old)
  store-kinds _ (opens channel driver n name) = inr (λ old. refl)
  store-kinds _ (writes channel offset bytes) = inr (λ old. refl)
  store-kinds _ (stores d offset bytes) =
      elim (ℕ_discrete d segment) [
        | yes q ↦ elim (reached offset bytes k) [
          | inl (a, b) ↦ inl (λ e c g. (get_or bytes (k - offset) 0, put g (c ∙ ap (λ (x : ℕ). store x offset bytes) q) a b))
          | inr p ↦ inr (λ old. rw (eq-eqb d segment q) (p old))
        ]
        | no q ↦ inr (λ old. rw (ne_eqb d segment q))
      ]
  store-kinds _ (loads d page offset stream) =
      elim (ℕ_discrete d segment) [
        | yes q ↦ elim (each-kinds k (puts_in page offset stream)) [
          | inl (x, l) ↦ inl (λ e c g. (x, loaded g (c ∙ ap (λ (y : ℕ). load-module y page offset stream) q) l))
          | inr n ↦ inr (λ old. rw (eq-eqb d segment q) (each_none k (puts_in page offset stream) n old))
        ]
        | no q ↦ inr (λ old. rw (ne_eqb d segment q))
      ]
  store-kinds _ (other c) = inr (λ old. refl)

  pub last_stored_lem : (first : ℕ) (h : History) → LastStored segment k first h (last_stored h segment k first)
  unfolding last_stored
  last_stored_lem first [] = never
  last_stored_lem first (e ∷ h) = last_made (Stores segment k) (stored_by segment k) stores-it store-kinds e h (last_stored h segment k first) (last_stored_lem first h)

  pub stored_one : {first : ℕ} {h : History} {x y : ℕ} → LastStored segment k first h x → LastStored segment k first h y → x ≡ y
  stored_one = one-made (Stores segment k) (stored_by segment k) stores-it store-kinds

-- ---- a buffer's size

-- what a done call makes of the size of a channel's buffer, which was `old`: an open of the channel makes it the n that the open asks for
abbrev sized_by : (channel : ℕ) (c : Call) → Deed c → (old : ℕ) → ℕ
sized_by channel c (opens d driver n name) old = cond (eqb d channel) n old
sized_by channel c (writes d offset bytes) old = old
sized_by channel c (stores segment offset bytes) old = old
sized_by channel c (loads segment page offset stream) old = old
sized_by channel c (other _) old = old

unfoldable pub resized : Call → (channel old : ℕ) → ℕ
resized c channel old = sized_by channel c (deed c) old

-- the size last opened with, computed
unfoldable pub last_size : History → (channel : ℕ) → ℕ
unfolding resized
last_size [] channel = 0
last_size (e ∷ h) channel = cond (granted e.answer) (resized e.call channel (last_size h channel)) (last_size h channel)

module _ (channel : ℕ) where
  sizes-it : (e : Event) (x : ℕ) → Sizes channel e x → (granted e.answer ≡ true) × ((old : ℕ) → sized_by channel e.call (deed e.call) old ≡ x)
  sizes-it e x (sized g c) = (g, λ old. rw (c, eq-eqb channel channel refl))

  size-kinds : (c : Call) (d : Deed c)
      → ((e : Event) → e.call ≡ c → granted e.answer ≡ true → (x : ℕ) × Sizes channel e x) ⊎ ((old : ℕ) → sized_by channel c d old ≡ old)
  size-kinds _ (opens d driver n name) =
      elim (ℕ_discrete d channel) [
        | yes q ↦ inl (λ e c g. (n, sized {driver = driver} {name = name} g (c ∙ ap (λ (x : ℕ). «open» x driver n name) q)))
        | no q ↦ inr (λ old. rw (ne_eqb d channel q))
      ]
  size-kinds _ (writes d offset bytes) = inr (λ old. refl)
  size-kinds _ (stores segment offset bytes) = inr (λ old. refl)
  size-kinds _ (loads segment page offset stream) = inr (λ old. refl)
  size-kinds _ (other c) = inr (λ old. refl)

  pub last-size : (h : History) → LastSize channel h (last_size h channel)
  unfolding last_size
  last-size [] = never
  last-size (e ∷ h) = last_made (Sizes channel) (sized_by channel) sizes-it size-kinds e h (last_size h channel) (last-size h)

  pub size-one : {h : History} {x y : ℕ} → LastSize channel h x → LastSize channel h y → x ≡ y
  size-one = one-made (Sizes channel) (sized_by channel) sizes-it size-kinds

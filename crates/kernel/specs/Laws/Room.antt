-- The room rule as one sum of bytes: "compare first, round after". The definition has 01's sentence, with the EXOS boundary where a segment is shared;
-- the code compares the sums, and these laws join the two.
use Rattle.std.specs.Prelude.{◌≡◌, refl, Bool, ℕ, ◌+◌, ◌-◌, ◌*◌, ◌≤◌, ◌<◌, leb, length, take}
use Rattle.std.proofs.Common.{sym, ◌∙◌, ltb-true, ltb-false, length-take, get_or-take}
use Rattle.std.proofs.Math.Bool.{true, false}
use Rattle.std.proofs.lemmas.Bool.{false≢true}
use Rattle.std.proofs.Math.Decide.{dec_le}
use native.Mathlib.Omega.{arith}
use Rattle.rows.specs.Definition.Lists.{first_place}
use Rattle.rows.specs.Definition.Classes.{FREE, SHARED}
use Rattle.rows.specs.Definition.Sizes.{chain_length, boundary_at}
use Rattle.rows.specs.Laws.Lists.{is_false}
use Rattle.rows.specs.Laws.Says.{Says, says-le, says-and, says-as}
use Rattle.rows.specs.Laws.Sizes.{length-low, edge-low, ends, chain-most}
use Rattle.rows.specs.Laws.Counts.{first-none}
use Rattle.kernel.specs.Definition.Tables.{SEGMENT, class_at, count_of, sharing, last_row}
use Rattle.kernel.specs.Definition.Line.{total_of, room_for}
use Rattle.kernel.specs.Definition.Good.{Good}
use Rattle.kernel.specs.Within.{spare}
use Rattle.kernel.specs.Laws.Body.{Shares, Body, body, last-known, first-class}
use Rattle.kernel.specs.Laws.Facts.{no-shorter}
use Rattle.kernel.specs.declared.Tables.{Tables}

-- a segment is shared exactly if the chain's last is
pub shares-yes : (t : Tables) → Body t → sharing t ≡ true → Shares t
shares-yes t b e =
    let row = first_place SHARED (take t.segments t.classes) in
    let h : row < t.segments = ltb-true _ _ e in
    let five : class_at t row ≡ SHARED = first-class t b SHARED h in
    rw (b.chain.last row h five) five

pub shares-no : (t : Tables) → Body t → sharing t ≡ false → Shares t → ⊥
shares-no t b f e =
    let cs = take t.segments t.classes in
    let h : t.segments ≤ first_place SHARED cs = ltb-false _ _ f in
    let r : last_row t < t.segments = last-known t b in
    let l : length cs ≡ t.segments = omega (arith, length-take t.segments t.classes, b.sized.classes, b.list.most) in
    first-none SHARED cs (omega arith) (last_row t) (omega arith) (get_or-take t.segments t.classes (last_row t) 0 r ∙ e)

-- the EXOS boundary is what a line of length n leaves of its chain
pub line-sum : (r n : ℕ) → boundary_at r n + n ≡ r + SEGMENT * (chain_length r n - 1)
line-sum r n = elim (dec_le n r) [
  | yes h ↦ omega (arith, length-low r n h, edge-low r n h)
  | no h ↦ (ends r n (omega arith)).sum
]

-- for a line of length n at the room r that takes no fewer segments than the chain has
module _ (t : Tables) (b : Body t) (r n : ℕ) (long : t.held ≤ chain_length r n) where
  says-by : (s : Bool) → sharing t ≡ s → Says (room_for t r n) (n + t.user ≤ r + SEGMENT * (t.held - 1 + spare t))
  unfolding room_for
  says-by true s =
      let l = line-sum r n in
      let some = b.chain.holds in
      rw s (says-as (says-and (says-le n (r + SEGMENT * (t.held - 1))) (says-le t.user (boundary_at r n)))
      (λ h. omega (arith, h.0, h.1, chain-most r n (t.held - 1) h.0))
      (λ e. let stays : n ≤ r + SEGMENT * (t.held - 1) = omega arith in (stays, omega (arith, chain-most r n (t.held - 1) stays))))
  says-by false s =
      let z : t.user ≡ 0 = b.none (shares-no t b s) in
      rw s (says-as (says-le n (r + SEGMENT * (t.held - 1 + count_of FREE t))) (λ h. omega arith) (λ e. omega arith))

  pub room-in-bytes : Says (room_for t r n) (n + t.user ≤ r + SEGMENT * (t.held - 1 + spare t))
  room-in-bytes = says-by (sharing t) refl

same : {a b : Bool} {P : Type 0} → Says a P → Says b P → a ≡ b
same {a} {b} x y = go a refl
  where
    go : (c : Bool) → a ≡ c → a ≡ b
    go true e = e ∙ sym (y.make (x.yes e))
    go false e = e ∙ sym (is_false b (λ f. false≢true (sym e ∙ x.make (y.yes f))))

-- as the code asks it
pub room-asked : (t : Tables) → Good t → (r n : ℕ) → r ≤ t.room → total_of t ≤ n
    → leb (n + t.user) (r + SEGMENT * (t.held - 1 + spare t)) ≡ room_for t r n
room-asked t g r n h k = same (says-le _ _) (room-in-bytes t (body t g) r n (no-shorter t g r n h k))

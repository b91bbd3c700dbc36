-- There is a layout exactly when the records are no longer than there are places.
use Rattle.std.specs.Prelude.{◌≡◌, refl, ◌↔◌, List, length}
use Rattle.std.proofs.Common.{sym, ◌∙◌, arith}
use Rattle.std.proofs.Math.Path.{ap}
use Prim.Native.Nat.{ℕ, ◌+◌, ◌-◌, ◌≤◌, ◌<◌}
use Rattle.std.proofs.Math.Decide.{dec_lt}
use Rattle.rows.specs.Definition.Lists.{at, sum_to}
use Rattle.history.specs.Definition.Layout.{Place, ByteOf, Layout}
use Rattle.history.specs.Room.Sums.{number-below, number-apart, pair-at, pigeonhole-rel, total, total-sum}

-- a layout in some places is one in more places
pub layout-in : {lengths : List ℕ} {P Q : Place → Type 0} → ((p : Place) → P p → Q p) → Layout lengths P → Layout lengths Q
layout-in f l = record { placed = l.placed; inside = λ i k b. f (l.placed i k) (l.inside i k b); apart = l.apart }

-- of each row below `rows` the offsets from `lo` up to, and without, `hi`
pub record Between (rows : ℕ) (lo hi : ℕ → ℕ) (p : Place) : Type 0 where
  pub known : p.row < rows
  pub from : lo p.row ≤ p.offset
  pub below : p.offset < hi p.row

-- how many places those are
abbrev pub places_of : (rows : ℕ) (lo hi : ℕ → ℕ) → ℕ
places_of rows lo hi = sum_to rows (λ r. hi r - lo r)

module _ (lengths : List ℕ) (rows : ℕ) (lo hi : ℕ → ℕ) where
  w : ℕ → ℕ
  w r = hi r - lo r

  len : ℕ → ℕ
  len i = at lengths i

  -- the number of a place
  number : Place → ℕ
  number p = sum_to p.row w + (p.offset - lo p.row)

  number_small : (p : Place) → Between rows lo hi p → number p < sum_to rows w
  unfolding w number
  number_small p o = number-below w rows p.row (p.offset - lo p.row) o.known (omega arith)

  number-one : (p q : Place) → Between rows lo hi p → Between rows lo hi q → number p ≡ number q → p ≡ q
  unfolding w number
  number-one p q o u e =
      let (a, b) = number-apart w p.row q.row (p.offset - lo p.row) (q.offset - lo q.row) (omega arith) (omega arith) e in
      let c : p.offset ≡ q.offset = omega (arith, ap lo a) in
      λ i. record { row = a i; offset = c i }

  -- the pigeonhole: records that have a layout are no longer than there are places
  bound : Layout lengths (Between rows lo hi) → sum_to (length lengths) len ≤ sum_to rows w
  unfolding len
  bound L = pigeonhole-rel (sum_to (length lengths) len) (sum_to rows w) P has one
    where
      P : ℕ → ℕ → Type 0
      P p v = (i : ℕ) × (k : ℕ) × ByteOf lengths i k × (sum_to i len + k ≡ p) × (number (L.placed i k) ≡ v)

      has : (p : ℕ) → p < sum_to (length lengths) len → (v : ℕ) × (v < sum_to rows w) × P p v
      has p h =
          let (i, k, a, b, e) = pair-at len (length lengths) p h in
          let r : ByteOf lengths i k = record { record-known = a; in-record = b } in
          (number (L.placed i k), number_small (L.placed i k) (L.inside i k r), (i, k, r, e, refl))

      one : (p q v : ℕ) → P p v → P q v → p ≡ q
      one p q v (i, k, r, e, a) (j, l, s, f, b) =
          let (x, y) = L.apart i j k l r s (number-one _ _ (L.inside i k r) (L.inside j l s) (a ∙ sym b)) in
          cc

  -- records no longer than there are places have one
  made : sum_to (length lengths) len ≤ sum_to rows w → Layout lengths (Between rows lo hi)
  unfolding w len number
  made h = record { placed = place; inside = in_place; apart = apart-place }
    where
      pick : (p : ℕ) → Dec (p < sum_to rows w) → Place
      pick p (yes g) = let (r, o, _, _, _) = pair-at w rows p g in record { row = r; offset = lo r + o }
      pick p (no _) = record { row = 0; offset = 0 }

      pick_is : (p : ℕ) (d : Dec (p < sum_to rows w)) → p < sum_to rows w → Between rows lo hi (pick p d) × (number (pick p d) ≡ p)
      pick_is p (yes g) a =
          let q = pair-at w rows p g in
          let b : q.1 < hi q.0 - lo q.0 = q.3 in
          (record { known = q.2; from = omega arith; below = omega arith }, omega (arith, q.4))
      pick_is p (no g) a = absurd (g a)

      place : ℕ → ℕ → Place
      place i k = pick (sum_to i len + k) (dec_lt (sum_to i len + k) (sum_to rows w))

      fits : (i k : ℕ) → ByteOf lengths i k → sum_to i len + k < sum_to rows w
      fits i k r = omega (arith, number-below len (length lengths) i k r.record-known r.in-record)

      in_place : (i k : ℕ) → ByteOf lengths i k → Between rows lo hi (place i k)
      in_place i k r = (pick_is (sum_to i len + k) (dec_lt _ _) (fits i k r)).0

      apart-place : (i j k l : ℕ) → ByteOf lengths i k → ByteOf lengths j l → place i k ≡ place j l → (i ≡ j) × (k ≡ l)
      apart-place i j k l r s e =
          number-apart len i j k l r.in-record s.in-record
          (cc ((pick_is (sum_to i len + k) (dec_lt _ _) (fits i k r)).1, (pick_is (sum_to j len + l) (dec_lt _ _) (fits j l s)).1))

  -- a layout exists exactly when the records' total length is at most the number of places
  pub layout-exists : Layout lengths (Between rows lo hi) ↔ (total lengths ≤ places_of rows lo hi)
  unfolding w len
  layout-exists = (λ L. omega (arith, bound L, total-sum lengths), λ h. made (omega (arith, total-sum lengths)))

-- How many places a set of segments has, without and with the user's part, and how many segments the system holds and may take.
use Rattle.std.specs.Prelude.{◌≡◌, refl, Bool, true, false, cond, ◌||◌, ◌↔◌, List, [], ◌∷◌, ℕ, zero, suc, ◌+◌, ◌-◌, ◌*◌, ◌≤◌, ◌<◌, eqb, length, take}
use Rattle.std.proofs.Common.{sym, ◌∙◌, arith, eq-eqb, ne_eqb, length-take, get_or-take}
use Rattle.std.proofs.Math.Decide.{ℕ_discrete}
use Rattle.rows.specs.Definition.Lists.{tally, sum_to}
use Rattle.rows.specs.Definition.Classes.{FREE, SHARED, in_chain, times_held}
use Rattle.rows.specs.Definition.Channels.{sum_of}
use Rattle.rows.specs.Laws.Lists.{or-none}
use Rattle.rows.specs.Laws.Counts.{one, sum_same, sum-plus, sum-tally, sum-zero, tally-sum}
use Rattle.rows.specs.declared.Channel.{Channel}
use Rattle.kernel.specs.Definition.Tables.{class_at, count_of, sharing, last_row}
use Rattle.kernel.specs.Definition.Good.{Good}
use Rattle.kernel.specs.declared.Tables.{Tables}
use Rattle.history.specs.Room.Sums.{total}
use Rattle.history.specs.Definition.Layout.{Place, Layout}
use Rattle.history.specs.Room.Layout.{layout-in, Between, places_of, layout-exists}
use Rattle.history.specs.Definition.Places.{lengths_of, count_in, in_system, offered, In, Outside}

-- "T is the sum of their lengths."
pub total-records : (cs : List Channel) → total (lengths_of cs) ≡ sum_of cs
total-records [] = refl
total-records (c ∷ cs) = omega (arith, total-records cs)

-- the end of a row's places, and of a set's
end_at : (n r row : ℕ) → ℕ
end_at n r row = cond (eqb row (n - 1)) r 16384

hi_at : (n r : ℕ) → (ℕ → Bool) → ℕ → ℕ
hi_at n r set row = cond (set row) (end_at n r row) 0

end-top : (n r row : ℕ) → row ≡ n - 1 → end_at n r row ≡ r
unfolding end_at
end-top n r row e = rw (eq-eqb _ _ e)

end-other : (n r row : ℕ) → (row ≡ n - 1 → ⊥) → end_at n r row ≡ 16384
unfolding end_at
end-other n r row e = rw (ne_eqb _ _ e)

hi-yes : (n r : ℕ) (set : ℕ → Bool) (row : ℕ) → set row ≡ true → hi_at n r set row ≡ end_at n r row
unfolding hi_at
hi-yes n r set row e = rw e

hi-no : (n r : ℕ) (set : ℕ → Bool) (row : ℕ) → set row ≡ false → hi_at n r set row ≡ 0
unfolding hi_at
hi-no n r set row e = rw e

-- a sum's last term
top-sum : (n : ℕ) (f : ℕ → ℕ) → 1 ≤ n → sum_to n f ≡ sum_to (n - 1) f + f (n - 1)
top-sum zero f h = absurd (omega arith)
top-sum (suc n) f h = let e : suc n - 1 ≡ n = omega arith in rw e

-- a set with 255 is not empty
pub size-some : (n : ℕ) (set : ℕ → Bool) → 1 ≤ n → set (n - 1) ≡ true → 1 ≤ count_in n set
size-some n set h e = let one : cond {A = ℕ} (set (n - 1)) 1 0 ≡ 1 = rw e in omega (arith, top-sum n (λ row. cond (set row) 1 0) h)

-- a set with 255 has R places there, and a whole segment's in each other
module _ (n r : ℕ) (set : ℕ → Bool) where
  low_sum : (j : ℕ) → j ≤ n - 1 → sum_to j (hi_at n r set) ≡ 16384 * count_in j set
  low_sum zero h = refl
  low_sum (suc j) h = omega (arith, low_sum j (omega arith), cell (set j) refl)
    where
      cell : (b : Bool) → set j ≡ b → hi_at n r set j ≡ 16384 * cond (set j) 1 0
      cell true e = rw (hi-yes n r set j e, end-other n r j (λ q. omega arith), e)
      cell false e = rw (hi-no n r set j e, e)

  set-places : 1 ≤ n → set (n - 1) ≡ true → sum_to n (hi_at n r set) ≡ r + 16384 * (count_in n set - 1)
  set-places h e =
      let one : cond {A = ℕ} (set (n - 1)) 1 0 ≡ 1 = rw e in
      omega (arith, top-sum n (hi_at n r set) h, top-sum n (λ row. cond (set row) 1 0) h, low_sum (n - 1) (omega arith), hi-yes n r set (n - 1) e, end-top n r (n - 1) refl)

-- where no row's places begin behind their end
places-plus : (n : ℕ) (lo hi : ℕ → ℕ) → ((row : ℕ) → row < n → lo row ≤ hi row) → places_of n lo hi + sum_to n lo ≡ sum_to n hi
places-plus zero lo hi h = refl
places-plus (suc n) lo hi h = omega (arith, places-plus n lo hi (λ row g. h row (omega arith)), h n (omega arith))

-- a layout in the places of a set with 255
module _ (t : Tables) (r : ℕ) (set : ℕ → Bool) (small : r ≤ 16384) where
  in_between : (p : Place) → In t r set p → Between t.segments (λ row. 0) (hi_at t.segments r set) p
  in_between p i = record {
    known = i.known;
    from = omega arith;
    below = rw (hi-yes t.segments r set p.row i.chosen) (elim (ℕ_discrete p.row (t.segments - 1)) [
      | yes q ↦ rw (end-top t.segments r p.row q) (i.room q)
      | no q ↦ rw (end-other t.segments r p.row q) i.inside
    ]);
  }

  chosen_by : (row offset : ℕ) → offset < hi_at t.segments r set row → (b : Bool) → set row ≡ b → set row ≡ true
  chosen_by row offset h true e = e
  chosen_by row offset h false e = absurd (omega (arith, hi-no t.segments r set row e))

  between_in : (lo : ℕ → ℕ) (p : Place) → Between t.segments lo (hi_at t.segments r set) p → In t r set p
  between_in lo p b =
      let c : set p.row ≡ true = chosen_by p.row p.offset b.below (set p.row) refl in
      let h : p.offset < end_at t.segments r p.row = rw (hi-yes t.segments r set p.row c) at b.below in
      record {
        known = b.known;
        chosen = c;
        inside = elim (ℕ_discrete p.row (t.segments - 1)) [
          | yes q ↦ omega (arith, end-top t.segments r p.row q)
          | no q ↦ omega (arith, end-other t.segments r p.row q)
        ];
        room = λ q. omega (arith, end-top t.segments r p.row q);
      }

  pub in-exists : (lengths : List ℕ) → 1 ≤ t.segments → set (t.segments - 1) ≡ true
      → Layout lengths (In t r set) ↔ (total lengths ≤ r + 16384 * (count_in t.segments set - 1))
  in-exists lengths h e =
      let x = layout-exists lengths t.segments (λ row. 0) (hi_at t.segments r set) in
      let s = set-places t.segments r set h e in
      let z = places-plus t.segments (λ row. 0) (hi_at t.segments r set) (λ row g. omega arith) in
      let y = sum-zero t.segments (λ row. 0) (λ row g. refl) in
      (λ l. omega (arith, x.0 (layout-in in_between l)), λ g. layout-in (between_in (λ row. 0)) (x.1 (omega arith)))

-- the user's part of a row
user_at : Tables → ℕ → ℕ
user_at t row = cond (eqb (class_at t row) SHARED) t.user 0

user-yes : (t : Tables) (row : ℕ) → class_at t row ≡ SHARED → user_at t row ≡ t.user
unfolding user_at
user-yes t row e = rw (eq-eqb _ _ e)

user-no : (t : Tables) (row : ℕ) → (class_at t row ≡ SHARED → ⊥) → user_at t row ≡ 0
unfolding user_at
user-no t row e = rw (ne_eqb _ _ e)

-- a sum with one term only
sum-at : (n x : ℕ) (f : ℕ → ℕ) → x < n → ((i : ℕ) → i < n → (i ≡ x → ⊥) → f i ≡ 0) → sum_to n f ≡ f x
sum-at zero x f h z = absurd (omega arith)
sum-at (suc n) x f h z =
    elim (ℕ_discrete x n) [
      | yes q ↦ rw q (omega (arith, sum-zero n f (λ i g. z i (omega arith) (λ e. omega arith))))
      | no q ↦ omega (arith, sum-at n x f (omega arith) (λ i g. z i (omega arith)), z n (omega arith) (λ e. q (sym e)))
    ]

-- all the user's parts are that of the one shared segment
user-sum : (t : Tables) → Good t → sum_to t.segments (user_at t) ≡ t.user
user-sum t g =
    let w = last_row t in
    let b : w < t.segments = g.chain.rows (t.held - 1) (omega (arith, g.chain.holds)) in
    elim (ℕ_discrete (class_at t w) SHARED) [
      | yes q ↦ sum-at t.segments w (user_at t) b (λ i h d. user-no t i (λ e. d (sym (g.chain.last i h e)))) ∙ user-yes t w q
      | no q ↦ let z : t.user ≡ 0 = g.user.none q in
          sum-zero t.segments (user_at t) (λ i h. elim (ℕ_discrete (class_at t i) SHARED) [ yes e ↦ user-yes t i e ∙ z | no e ↦ user-no t i e ]) ∙ sym z
    ]

-- a layout in the places of a set with 255 and the shared segment, less the user's part
module _ (t : Tables) (g : Good t) (r : ℕ) (set : ℕ → Bool) (small : r ≤ 16384) (low : t.user ≤ 16384)
    (shares : (row : ℕ) → row < t.segments → class_at t row ≡ SHARED → set row ≡ true) (clear : class_at t (t.segments - 1) ≡ SHARED → t.user ≤ r) where
  outside-between : (p : Place) → Outside t r set p → Between t.segments (user_at t) (hi_at t.segments r set) p
  outside-between p o = record {
    known = o.place.known;
    from = elim (ℕ_discrete (class_at t p.row) SHARED) [
      | yes q ↦ rw (user-yes t p.row q) (o.outside q)
      | no q ↦ rw (user-no t p.row q) (omega arith)
    ];
    below = (in_between t r set small p o.place).below;
  }

  between-outside : (p : Place) → Between t.segments (user_at t) (hi_at t.segments r set) p → Outside t r set p
  between-outside p b = record {
    place = between_in t r set small (user_at t) p b;
    outside = λ q. rw (user-yes t p.row q) at b.from;
  }

  begins : (row : ℕ) → row < t.segments → user_at t row ≤ hi_at t.segments r set row
  begins row h = elim (ℕ_discrete (class_at t row) SHARED) [
    | yes q ↦ rw (user-yes t row q, hi-yes t.segments r set row (shares row h q)) (elim (ℕ_discrete row (t.segments - 1)) [
      | yes e ↦ rw (end-top t.segments r row e) (clear (rw e at q))
      | no e ↦ rw (end-other t.segments r row e) low
    ])
    | no q ↦ rw (user-no t row q) (omega arith)
  ]

  pub outside-exists : (lengths : List ℕ) → set (t.segments - 1) ≡ true
      → Layout lengths (Outside t r set) ↔ (total lengths + t.user ≤ r + 16384 * (count_in t.segments set - 1))
  outside-exists lengths e =
      let x = layout-exists lengths t.segments (user_at t) (hi_at t.segments r set) in
      let s = set-places t.segments r set (omega (arith, g.list.least)) e in
      let z = places-plus t.segments (user_at t) (hi_at t.segments r set) begins in
      let y = user-sum t g in
      (λ l. omega (arith, x.0 (layout-in outside-between l)), λ h. layout-in between-outside (x.1 (omega arith)))

-- the system holds as many segments as the chain is long
pub held-size : (t : Tables) → Good t → count_in t.segments (in_system t) ≡ t.held
held-size t g =
    let c = take t.held t.chain in
    let l : length c ≡ t.held = omega (arith, length-take t.held t.chain, g.sized.chain, g.chain.most) in
    let all : sum_to t.segments (λ row. tally row c) ≡ length c =
    sum-tally t.segments c (λ i h. rw (get_or-take t.held t.chain i 0 (omega arith)) (g.chain.rows i (omega arith))) in
    sym (sum_same t.segments (λ row. tally row c) (λ row. times_held (class_at t row)) g.chain.exact) ∙ all ∙ l

-- with a segment shared it may take no further one
pub offered-shared : (t : Tables) → Good t → sharing t ≡ true → count_in t.segments (offered t) ≡ t.held
offered-shared t g s =
    sum_same t.segments (λ row. cond (offered t row) 1 0) (λ row. cond (in_system t row) 1 0) (λ row h. rw (s, or-none (in_system t row))) ∙ held-size t g

-- with none shared it may take the free ones
pub offered-apart : (t : Tables) → Good t → sharing t ≡ false → count_in t.segments (offered t) ≡ t.held + count_of FREE t
offered-apart t g s =
    let a = sum_same t.segments (λ row. cond (offered t row) 1 0) (λ row. times_held (class_at t row) + one FREE (class_at t row)) (λ row h. rw s (go (class_at t row))) in
    let b = sum-plus t.segments (λ row. times_held (class_at t row)) (λ row. one FREE (class_at t row)) in
    let c = tally-sum FREE t.segments t.classes (omega (arith, g.sized.classes, g.list.most)) in
    omega (arith, held-size t g)
  where
    go : (c : ℕ) → cond {A = ℕ} (in_chain c || eqb c FREE) 1 0 ≡ times_held c + one FREE c
    go c = elim (ℕ_discrete c FREE) [
      | yes q ↦ rw q
      | no q ↦ rw (ne_eqb c FREE q, or-none (in_chain c)) (omega arith)
    ]

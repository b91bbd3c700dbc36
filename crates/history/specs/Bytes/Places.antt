-- The line's places: where they lie once the chain grew or a record went; all are the system's, none is the user's.
use Rattle.std.specs.Prelude.{◌≡◌, refl, Bool, true, false, cond, not, ◌||◌, List, ℕ, ◌+◌, ◌-◌, ◌*◌, ◌≤◌, ◌<◌, eqb, ltb}
use Rattle.std.proofs.Common.{sym, ap, ◌∙◌, arith, eq-eqb, ne_eqb, ltb-true}
use Rattle.std.proofs.lemmas.Bool.{false≢true}
use Rattle.std.proofs.Math.Decide.{dec_le, dec_lt, ℕ_discrete}
use Rattle.rows.specs.Definition.Lists.{at}
use Rattle.rows.specs.Laws.Lists.{and_left, and_right}
use Rattle.rows.specs.Definition.Classes.{USER, SHARED, times_held}
use Rattle.rows.specs.Definition.Sizes.{chain_length, boundary_at}
use Rattle.rows.specs.Laws.Sizes.{Ends, ends, length_high, length_some, edge-low}
use Rattle.line.specs.Definition.Line.{chain_index_of, offset_of, place_of}
use Rattle.line.specs.Within.Chains.{Chain}
use Rattle.line.specs.Laws.Places.{index-low, index-high, offset-low, offset-high, offset-lt}
use Rattle.kernel.specs.Definition.Tables.{SEGMENT, class_at, sharing}
use Rattle.kernel.specs.Definition.Line.{total_of}
use Rattle.kernel.specs.Definition.Segments.{may_reach, reach_of}
use Rattle.kernel.specs.Definition.Good.{Good}
use Rattle.kernel.specs.Definition.Bytes.{segment_at}
use Rattle.kernel.specs.Laws.Changes.{Closed, Linked}
use Rattle.kernel.specs.Laws.Chains.{good-chain, chain-shift}
use Rattle.kernel.specs.Laws.Ready.{Ready}
use Rattle.kernel.specs.Laws.Facts.{chain-exactly, chain-once, room_small, user-small}
use Rattle.kernel.specs.declared.Tables.{Tables}
use Rattle.history.specs.Definition.Layout.{Place}
use Rattle.history.specs.Definition.Places.{in_system, offered, Outside}
use Rattle.history.specs.Definition.Users.{Users, page-zero, own, shared}

-- a position lies at the same place of two chains that hold its segment alike
place_same : (chain other : List ℕ) (room p : ℕ) → at chain (chain_index_of room p) ≡ at other (chain_index_of room p) → place_of chain room p ≡ place_of other room p
unfolding place_of
place_same chain other room p e = rw e

-- a line's position is in one of the segments that the line takes, and so in one that is held
index_short : (room total p : ℕ) → p < total → chain_index_of room p < chain_length room total
index_short room total p h =
    elim (dec_lt p room) [
      | yes l ↦ omega (arith, index-low room p l, length_some room total)
      | no l ↦ let g : room ≤ p = omega arith in omega (arith, index-high room p g, length_high room total (omega arith))
    ]

index-held : (t : Tables) → Good t → (p : ℕ) → p < total_of t → chain_index_of t.room p < t.held
index-held t g p h = rw g.line (index_short t.room (total_of t) p h)

-- a chain that grew has the line where it was
pub grown-place : (t u : Tables) → Good t → ((i : ℕ) → i < t.held → at u.chain i ≡ at t.chain i) → (p : ℕ) → p < total_of t
    → place_of u.chain t.room p ≡ place_of t.chain t.room p
grown-place t u g same p h = place_same u.chain t.chain t.room p (same (chain_index_of t.room p) (index-held t g p h))

-- and so has one that a close left of it
pub closed-place : (t u : Tables) (j : ℕ) → Closed t u j → Good u → (p : ℕ) → p < total_of u → place_of u.chain u.room p ≡ place_of t.chain t.room p
closed-place t u j o g p h =
    place_same u.chain t.chain u.room p (o.chain (chain_index_of u.room p) (index-held u g p h)) ∙ ap (λ (x : ℕ). place_of t.chain x p) o.room

-- after a link the chain holds the line, which lies m positions further on under the old R
pub linked-chain : (t u : Tables) (m size : ℕ) → Linked t u m → Good t → m ≤ t.room → Ready u size → Chain u.chain t.room (total_of t + m) size
linked-chain t u m size o g le s =
    let total : total_of u ≡ total_of t = rw (o.opened, o.channels) in
    chain-shift u.chain t.room m (total_of t) size le (room_small t g) (rw (total, o.room) at (good-chain u size s.good s.size))

-- in the last of the line's segments a position is no lower than the EXOS boundary
edge-under : (room total p : ℕ) → p < total → chain_index_of room p + 1 ≡ chain_length room total → boundary_at room total ≤ offset_of room p
edge-under room total p h e =
    elim (dec_lt p room) [
      | yes l ↦ elim (dec_le total room) [
        | yes q ↦ omega (arith, offset-low room p l, edge-low room total q)
        | no q ↦ absurd (omega (arith, index-low room p l, length_high room total (omega arith)))
      ]
      | no l ↦
          let g : room ≤ p = omega arith in
          let x : Ends room total (chain_length room total - 1) (boundary_at room total) = ends room total (omega arith) in
          omega (arith, index-high room p g, offset-high room p g, x.sum)
    ]

-- what a store or load may reach is the user's
pub reach-users : (t : Tables) (row offset : ℕ) → may_reach t row ≡ true → offset < reach_of t row → Users t row offset
reach-users t row offset m h =
    let known : row < t.segments = ltb-true _ _ (and_left (ltb row t.segments) _ m) in
    let which : eqb row 0 || eqb (class_at t row) USER || eqb (class_at t row) SHARED ≡ true = and_right (ltb row t.segments) _ m in
    elim (ℕ_discrete (class_at t row) SHARED) [
      | yes q ↦
          let below : offset < t.user = rw (eq-eqb _ _ q) at h in
          shared known q (omega arith)
      | no q ↦
          let below : offset < SEGMENT = rw (ne_eqb _ _ q) at h in
          elim (ℕ_discrete row 0) [
            | yes z ↦ page-zero z below
            | no z ↦ elim (ℕ_discrete (class_at t row) USER) [
              | yes w ↦ own known w below
              | no w ↦ absurd (false≢true (rw (ne_eqb _ _ q, ne_eqb _ _ z, ne_eqb _ _ w) at which))
            ]
          ]
    ]

-- what the chain holds is the system's
pub held_in : (t : Tables) (row : ℕ) → 1 ≤ times_held (class_at t row) → in_system t row ≡ true
held_in t row = go (in_system t row)
  where
    go : (b : Bool) → 1 ≤ cond {A = ℕ} b 1 0 → b ≡ true
    go true h = refl
    go false h = absurd (omega arith)

module _ (t : Tables) (g : Good t) where
  -- a place of the chain's segment i that is in a row of another class than system and shared
  held-not : (i row : ℕ) → i < t.held → at t.chain i ≡ row → times_held (class_at t row) ≡ 0 → ⊥
  held-not i row h e z = omega (arith, (rw e at ((chain-exactly t g).only i h)))

  pub users-small : (row offset : ℕ) → Users t row offset → offset < 16384
  users-small row offset (page-zero z h) = h
  users-small row offset (own k c h) = h
  users-small row offset (shared k c h) = omega (arith, user-small t g)

  -- a chain's segment that has a place of the user's is the last, and shared
  users-last : (row offset i : ℕ) → Users t row offset → i < t.held → at t.chain i ≡ row → (i + 1 ≡ t.held) × (offset < t.user)
  users-last row offset i (page-zero z h) l e = absurd (held-not i row l e (rw (z, g.classes.page)))
  users-last row offset i (own k c h) l e = absurd (held-not i row l e (rw c))
  users-last row offset i (shared k c h) l e =
      let m = g.chain.holds in
      let last : i ≡ t.held - 1 = chain-once t g i (t.held - 1) l (omega arith) (e ∙ sym (g.chain.last row k c)) in
      (omega arith, h)

  -- no place of segment 255 from R on is the user's
  pub off-room : (row offset : ℕ) → Users t row offset → (o : ℕ) → t.room ≤ o → o < 16384 → segment_at row + offset ≡ at t.chain 0 * 16384 + o → ⊥
  off-room row offset u o h l e =
      let so = users-small row offset u in
      let same : at t.chain 0 ≡ row = omega arith in
      let last = users-last row offset 0 u g.chain.holds same in
      let low : total_of t ≤ t.room = elim (dec_le (total_of t) t.room) [ yes q ↦ q | no q ↦ absurd (omega (arith, last.0, g.line, length_high t.room (total_of t) (omega arith))) ] in
      omega (arith, last.1, g.user.most, edge-low t.room (total_of t) low)

  -- a place of the line is one of the system's, "less the user's part of a shared" segment
  pub line-outside : (p : ℕ) → p < total_of t → Outside t t.room (in_system t) (record { row = at t.chain (chain_index_of t.room p); offset = offset_of t.room p })
  line-outside p h =
      let i = chain_index_of t.room p in
      let row = at t.chain i in
      let l = index-held t g p h in
      let m = g.chain.holds in
      record {
        place = record {
          known = g.chain.rows i l;
          chosen = held_in t row ((chain-exactly t g).only i l);
          inside = offset-lt t.room p (room_small t g);
          room = λ e.
              let z : i ≡ 0 = chain-once t g i 0 l m (e ∙ sym g.chain.starts) in
              let low : p < t.room = elim (dec_lt p t.room) [ yes q ↦ q | no q ↦ absurd (omega (arith, index-high t.room p (omega arith))) ] in
              omega (arith, offset-low t.room p low);
        };
        outside = λ e.
            let last : i ≡ t.held - 1 = chain-once t g i (t.held - 1) l (omega arith) (sym (g.chain.last row (g.chain.rows i l) e)) in
            omega (arith, edge-under t.room (total_of t) p h (omega (arith, g.line)), g.user.most);
      }

  -- a place that is offered to the line is not the user's
  offered-not : (p : Place) → Outside t t.room (offered t) p → ¬ Users t p.row p.offset
  offered-not p o (page-zero z h) = false≢true (and_right (not (sharing t)) _ (rw (z, g.classes.page) at o.place.chosen))
  offered-not p o (own k c h) = false≢true (and_right (not (sharing t)) _ (rw c at o.place.chosen))
  offered-not p o (shared k c h) = omega (arith, o.outside c)

  -- an index that is a place offered to the line is no place of the user's
  pub apart-users : (row offset : ℕ) → Users t row offset → (p : Place) → Outside t t.room (offered t) p → ¬ (segment_at row + offset ≡ segment_at p.row + p.offset)
  apart-users row offset u p o e =
      let small = users-small row offset u in
      let inside = o.place.inside in
      let here : row ≡ p.row = omega arith in
      let there : offset ≡ p.offset = omega arith in
      offered-not p o (rw (here, there) at u)

  -- so that no place of the line is the user's
  pub off-line : (row offset : ℕ) → Users t row offset → (p : ℕ) → p < total_of t → segment_at row + offset ≡ place_of t.chain t.room p → ⊥
  unfolding place_of
  off-line row offset u p h e =
      let o = line-outside p h in
      apart-users row offset u _ (record {
        place = record { known = o.place.known; chosen = rw o.place.chosen; inside = o.place.inside; room = o.place.room };
        outside = o.outside;
      }) (omega arith)

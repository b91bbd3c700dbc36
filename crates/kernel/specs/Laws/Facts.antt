-- What follows from good tables: the sentences of 01 that the record does not repeat, and what the calls' code needs.
use Rattle.std.specs.Prelude.{◌≡◌, ℕ, ◌-◌, ◌≤◌, ◌<◌}
use Rattle.std.proofs.Common.{sym, arith, eq-eqb, ne_eqb}
use Rattle.std.proofs.Math.Decide.{ℕ_discrete}
use Rattle.rows.specs.Definition.Lists.{at}
use Rattle.rows.specs.Definition.Classes.{SHARED, times_held}
use Rattle.rows.specs.Definition.Sizes.{chain_length}
use Rattle.rows.specs.Laws.Lists.{neither-below}
use Rattle.rows.specs.Laws.Sizes.{length-mono, edge-small}
use Rattle.rows.specs.Laws.Exact as exact
use Rattle.rows.specs.Laws.Exact.{Exactly, exactly}
use Rattle.kernel.specs.Definition.Tables.{class_at}
use Rattle.kernel.specs.Definition.Line.{total_of}
use Rattle.kernel.specs.Definition.Segments.{reach_of}
use Rattle.kernel.specs.Definition.Good.{Good}
use Rattle.kernel.specs.Within.{Fit}
use Rattle.kernel.specs.declared.Tables.{Tables}

-- "the chain below is exactly the system and shared segments without a repeat", as a reader says it
pub chain-exactly : (t : Tables) → Good t → Exactly t.segments t.classes t.chain t.held
chain-exactly t g = exactly t.segments t.classes t.chain t.held g.sized.chain g.chain.most g.chain.rows g.chain.exact

pub chain-once : (t : Tables) → Good t → (i j : ℕ) → i < t.held → j < t.held → at t.chain i ≡ at t.chain j → i ≡ j
chain-once t g i j h k e = let x = chain-exactly t g in neither-below i j (λ a. x.once i j a k e) (λ a. x.once j i a h (sym e))

-- "at most one segment is shared"
pub one-shared : (t : Tables) → Good t → (i j : ℕ) → i < t.segments → j < t.segments → class_at t i ≡ SHARED → class_at t j ≡ SHARED → i ≡ j
one-shared t g = exact.one-shared t.segments t.classes t.chain t.held g.chain

-- "255 is system or shared"
pub top-held : (t : Tables) → Good t → 1 ≤ times_held (class_at t (t.segments - 1))
top-held t g = exact.top-held t.segments t.classes t.chain t.held g.sized.chain g.chain

-- an open never shortens the line and a link never raises R: the new line takes no fewer segments than the chain has
pub no-shorter : (t : Tables) → Good t → (r n : ℕ) → r ≤ t.room → total_of t ≤ n → t.held ≤ chain_length r n
no-shorter t g r n h k = omega (arith, g.line, length-mono t.room r (total_of t) n h k)

-- R, the user boundary and what a store or load reaches end within a segment
pub room_small : (t : Tables) → Good t → t.room ≤ 16384
room_small t g = omega (arith, g.room.most, g.room.top)

pub user-small : (t : Tables) → Good t → t.user ≤ 16384
user-small t g = omega (arith, g.user.most, edge-small t.room (total_of t) (room_small t g))

pub reach-small : (t : Tables) → Good t → (row : ℕ) → reach_of t row ≤ 16384
reach-small t g row =
    elim (ℕ_discrete (class_at t row) SHARED) [
      | yes q ↦ rw (eq-eqb _ _ q) (user-small t g)
      | no q ↦ rw (ne_eqb _ _ q) (omega arith)
    ]

pub fit : (t : Tables) → Good t → Fit t
fit t g = record {
  one = omega (arith, g.list.least);
  segments = g.list.most;
  holds = g.chain.holds;
  held = g.chain.most;
  rows = λ i h. omega (arith, g.chain.rows i h, g.list.most);
  opened = g.channels.most;
  known = g.devices.most;
}

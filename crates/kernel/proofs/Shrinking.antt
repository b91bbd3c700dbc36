-- The chain gives segments up, as the code goes about it.
use mathlib.Core.Path.{◌≡◌, refl}
use Prim.Native.Nat.{ℕ, suc, ◌+◌, ◌-◌, ◌<◌}
use native.Mathlib.Omega.{arith}
use borrow.Author.Tests.{eq-eqb, ne_eqb}
use lib.ListN.{set}
use Rattle.std.specs.Prelude.{◌≢◌}
use lib.Seq.{get_or-set_other}
use Rattle.rows.specs.Definition.Classes.{FREE, USER, SHARED}
use Rattle.kernel.specs.Definition.Tables.{class_at, last_row, with_segments}
use Rattle.kernel.specs.Definition.Line.{one_less, shrunk}
use Rattle.kernel.specs.Within.{Fit}
use Rattle.kernel.specs.declared.Tables.{Tables}

-- one segment given up, a shared one and another
module _ (t : Tables) (last row : ℕ) (e : last ≡ t.held - 1) (r : row ≡ last_row t) where
  pub less_shared : class_at t row ≡ SHARED → with_segments t (set t.classes row USER) (t.held - 1) (set t.chain last 0) 0 ≡ one_less t
  unfolding one_less
  less_shared q = let s = rw r at q in rw (r, e, eq-eqb _ _ s)

  pub less_other : class_at t row ≢ SHARED → with_segments t (set t.classes row FREE) (t.held - 1) (set t.chain last 0) t.user ≡ one_less t
  unfolding one_less
  less_other q = let s = rw r at q in rw (r, e, ne_eqb _ _ s)

-- it leaves what the code needs, where it is not the only one
pub less-fit : (t : Tables) → 1 < t.held → Fit t → Fit (one_less t)
unfolding one_less
less-fit t h f = record {
  one = f.one;
  segments = f.segments;
  holds = omega arith;
  held = omega (arith, f.held);
  rows = λ i g. rw (get_or-set_other t.chain (t.held - 1) i 0 0 (λ e. omega arith)) (f.rows i (omega arith));
  opened = f.opened;
  known = f.known;
}

pub less-held : (t : Tables) → (one_less t).held ≡ t.held - 1
unfolding one_less
less-held t = refl

-- several given up, one at a time
pub shrunk-step : (k i : ℕ) (t : Tables) → i < k → shrunk (k - i) t ≡ shrunk (k - (i + 1)) (one_less t)
unfolding shrunk
shrunk-step k i t h = let e : k - i ≡ suc (k - (i + 1)) = omega arith in rw e

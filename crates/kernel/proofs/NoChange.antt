-- A chain that neither grows nor shrinks.
use mathlib.Core.Path.{◌≡◌}
use Prim.Native.Nat.{ℕ}
use Rattle.kernel.specs.Definition.Line.{grown, shrunk}
use Rattle.kernel.specs.declared.Tables.{Tables}

pub grown-none : (k : ℕ) (t : Tables) → k ≡ 0 → t ≡ grown k t
unfolding grown
grown-none k t e = rw e

pub shrunk-none : (k : ℕ) (t : Tables) → k ≡ 0 → t ≡ shrunk k t
unfolding shrunk
shrunk-none k t e = rw e

-- How the chain grows, the EXOS boundary, and the room rule, as the code takes them.
use mathlib.Core.Path.{◌≡◌, sym}
use Prim.Native.Nat.{ℕ, suc, ◌+◌, ◌-◌, ◌*◌, ◌≤◌, ◌<◌}
use native.Mathlib.Omega.{arith}
use lib.Dec.{leb}
use lib.ListN.{set}
use Rattle.std.specs.Prelude.{Option, Some, None}
use Rattle.rows.specs.Definition.Lists.{last_of}
use Rattle.rows.specs.Definition.Classes.{FREE, SYSTEM}
use Rattle.kernel.specs.Definition.Tables.{SEGMENT, with_segments}
use Rattle.kernel.specs.Definition.Good.{Sized, Good}
use Rattle.kernel.specs.Definition.Line.{total_of, taking, one_more, grown, room_for}
use Rattle.kernel.specs.Within.{spare}
use Rattle.kernel.specs.Laws.Chains.{line-fits}
use Rattle.kernel.specs.Laws.Room.{room-asked}
use Rattle.rows.specs.Laws.Lists.{last_within}
use Rattle.kernel.specs.declared.Tables.{Tables}

-- one further segment, where one is free and where none is
pub more_row : (t : Tables) (row : ℕ) → Sized t → Some row ≡ last_of FREE t.classes → row < 32
more_row t row s e = omega (arith, last_within FREE t.classes row (sym e), s.classes)

pub more_made : (t : Tables) (row held : ℕ) → Some row ≡ last_of FREE t.classes → held ≡ t.held
    → with_segments t (set t.classes row SYSTEM) (t.held + 1) (set t.chain held row) t.user ≡ one_more t
unfolding one_more
more_made t row held e h = rw (h, ← e)

pub more_none : (t : Tables) → None ≡ last_of FREE t.classes → t ≡ one_more t
unfolding one_more
more_none t e = rw (← e)

taking-held : (t : Tables) (found : Option ℕ) → (taking t found).held ≤ t.held + 1
taking-held t (Some row) = omega arith
taking-held t None = omega arith

pub more-held : (t : Tables) → (one_more t).held ≤ t.held + 1
unfolding one_more
more-held t = taking-held t (last_of FREE t.classes)

pub grown-step : (k i : ℕ) (t : Tables) → i < k → grown (k - i) t ≡ grown (k - (i + 1)) (one_more t)
unfolding grown
grown-step k i t h = let e : k - i ≡ suc (k - (i + 1)) = omega arith in rw e

-- T is no more than 32 segments hold under the highest room
pub total-most : (t : Tables) → Good t → (total : ℕ) → total ≡ total_of t → total ≤ 524032
total-most t g total e = omega (arith, line-fits t.room (total_of t), g.line, g.chain.most, g.room.most, g.room.top)

-- the room rule in bytes, as the code adds them
pub room_made : (t : Tables) → Good t → (room n user r held more : ℕ) → room ≤ t.room → total_of t ≤ n → user ≡ t.user → r ≡ room → held ≡ t.held
    → more ≡ spare t → leb (n + user) (r + SEGMENT * (held - 1 + more)) ≡ room_for t room n
room_made t g room n user r held more h k u e l m = rw (u, e, l, m) (room-asked t g room n h k)

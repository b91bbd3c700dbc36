-- "Who may have a segment": allocate, free, the user boundary, and what the user may store and load.
use Rattle.std.specs.Prelude.{Bool, cond, not, ◌&&◌, ◌||◌, ℕ, ltb, eqb, set}
use Rattle.rows.specs.Definition.Classes.{FREE, USER, SYSTEM, DEVICE, SHARED}
use Rattle.kernel.specs.Definition.Tables.{SEGMENT, class_at, lowest_free, sharing, last_row, with_segments}
use Rattle.kernel.specs.Definition.Line.{boundary_of}
use Rattle.kernel.specs.declared.Tables.{Tables}

-- callers: 0 the user, 1 a device
abbrev pub class_for : ℕ → ℕ
class_for caller = cond (eqb caller 0) USER DEVICE

abbrev pub some_free : Tables → Bool
some_free t = ltb (lowest_free t) t.segments

-- "A user finding none gets the chain's last segment shared, if none is shared and the EXOS boundary is above 0"
abbrev pub may_share : Tables → ℕ → Bool
may_share t caller = eqb caller 0 && not (sharing t) && ltb 0 (boundary_of t)

-- "Allocate gives user or device the lowest numbered free segment"
unfoldable pub granting : Tables → ℕ → Tables
granting t caller = with_segments t (set t.classes (lowest_free t) (class_for caller)) t.held t.chain t.user

-- "the user boundary becomes the EXOS boundary and the user owns the offsets below it"
unfoldable pub sharing_last : Tables → Tables
sharing_last t = with_segments t (set t.classes (last_row t) SHARED) t.held t.chain (boundary_of t)

-- "Free: the user gives back user .. or shared ..; a device gives back device. The page zero segment can't be freed." Asked of callers 0 and 1 alone
abbrev pub may_free : Tables → (caller row : ℕ) → Bool
may_free t caller row =
    ltb row t.segments && (eqb (class_at t row) (class_for caller) || (eqb caller 0 && eqb (class_at t row) SHARED))

-- "user (becomes free) or shared (becomes system, user boundary 0)"
unfoldable pub freeing : Tables → ℕ → Tables
freeing t row =
    cond (eqb (class_at t row) SHARED)
    (with_segments t (set t.classes row SYSTEM) t.held t.chain 0)
    (with_segments t (set t.classes row FREE) t.held t.chain t.user)

-- the user boundary set
unfoldable pub bounding : Tables → ℕ → Tables
bounding t value = with_segments t t.classes t.held t.chain value

-- "Store and load reach the page zero segment and user segments up to 16,384, a shared one up to the user boundary."
abbrev pub may_reach : Tables → ℕ → Bool
may_reach t row = ltb row t.segments && (eqb row 0 || eqb (class_at t row) USER || eqb (class_at t row) SHARED)

abbrev pub reach_of : Tables → ℕ → ℕ
reach_of t row = cond (eqb (class_at t row) SHARED) t.user SEGMENT

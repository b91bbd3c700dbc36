-- "The places are offsets 0 to R-1 of 255 and all offsets of the other segments held, less the user's part of a shared one."
use Rattle.std.specs.Prelude.{◌≡◌, Bool, true, cond, not, ◌&&◌, ◌||◌, List, [], ◌∷◌, ℕ, ◌+◌, ◌-◌, ◌≤◌, ◌<◌, eqb, take}
use Rattle.rows.specs.Definition.Classes.{FREE, SHARED, in_chain}
use Rattle.rows.specs.Definition.Lists.{sum_to}
use Rattle.rows.specs.declared.Channel.{Channel}
use Rattle.kernel.specs.Definition.Tables.{SEGMENT, class_at, sharing}
use Rattle.kernel.specs.declared.Tables.{Tables}
use Rattle.history.specs.Definition.Layout.{Place}

-- the lengths of the open records: "length L = 16 + n"
abbrev pub lengths_of : List Channel → List ℕ
lengths_of [] = []
lengths_of (c ∷ cs) = (16 + c.n) ∷ lengths_of cs

abbrev pub record_lengths : Tables → List ℕ
record_lengths t = lengths_of (take t.opened t.channels)

-- a set of segments says of each row of the list whether it has it: how many of n rows it has
abbrev pub count_in : ℕ → (ℕ → Bool) → ℕ
count_in n set = sum_to n (λ row. cond (set row) 1 0)

-- what the system holds: the system and shared segments
abbrev pub in_system : Tables → ℕ → Bool
in_system t row = in_chain (class_at t row)

-- what the system holds "and, if nothing is shared, .. the free segments"
abbrev pub offered : Tables → ℕ → Bool
offered t row = in_chain (class_at t row) || (not (sharing t) && eqb (class_at t row) FREE)

-- "offsets 0 to R-1 of 255", which is the last row, "and all offsets of the other segments" of a set, with R = r
pub record In (t : Tables) (r : ℕ) (set : ℕ → Bool) (p : Place) : Type 0 where
  pub known : p.row < t.segments
  pub chosen : set p.row ≡ true
  pub inside : p.offset < SEGMENT
  pub room : p.row ≡ t.segments - 1 → p.offset < r

-- "less the user's part of a shared one"
pub record Outside (t : Tables) (r : ℕ) (set : ℕ → Bool) (p : Place) : Type 0 where
  pub place : In t r set p
  pub outside : class_at t p.row ≡ SHARED → t.user ≤ p.offset

-- Condition 3 on room: the fewest segments, and the refusal for room.
use Rattle.std.specs.Prelude.{◌≡◌, Bool, true, ◌↔◌, List, [], ◌∷◌, ◌++◌, ℕ, ◌+◌, ◌-◌, ◌≤◌, ◌<◌}
use Rattle.rows.specs.Definition.Classes.{SHARED}
use Rattle.kernel.specs.Definition.Tables.{class_at}
use Rattle.kernel.specs.Definition.Answers.{granted}
use Rattle.kernel.specs.Definition.Calls.{Call}
use Rattle.kernel.specs.Definition.Refusals.{Row}
use Rattle.kernel.specs.declared.Tables.{Tables}
use Rattle.kernel.specs.declared.Answer.{Answer}
use Rattle.kernel.specs.declared.Answer.TheVariants.{NoRoom}
use Rattle.history.specs.Definition.Layout.{Layout}
use Rattle.history.specs.Definition.Places.{record_lengths, count_in, in_system, In, Outside, offered}

-- "The system holds the fewest segments in which the open channels' records can lie with no place used twice."
pub record Fewest (t : Tables) : Type 0 where
  -- the open records have a layout in what the system holds, outside the user's part
  pub lie : Layout (record_lengths t) (Outside t t.room (in_system t))
  -- as many segments as the chain is long
  pub many : count_in t.segments (in_system t) ≡ t.held
  -- in no set of fewer segments, 255 always held, have they one: not even with the user's part
  pub least : (set : ℕ → Bool) → set (t.segments - 1) ≡ true → Layout (record_lengths t) (In t t.room set)
      → count_in t.segments (in_system t) ≤ count_in t.segments set

-- "passes every earlier check": no row of the refusal table before 9 ROOM holds
abbrev pub Passes : Tables → (ram output : ℕ) → Call → Type 0
Passes t ram output c = (k : ℕ) → k < 9 → ¬ Row t ram output c k

-- "refused for room exactly when no such layout fits", and done when one does
pub record OnlyRoom (answer : Answer) (Fits : Type 0) : Type 0 where
  pub refused : (answer ≡ NoRoom) ↔ ¬ Fits
  pub done : Fits → granted answer ≡ true

-- the open records and a new one with a buffer of n bytes
abbrev pub records_and : Tables → ℕ → List ℕ
records_and t n = record_lengths t ++ ((16 + n) ∷ [])

-- R = r leaves the user's part of 255 whole
abbrev pub Clear : Tables → ℕ → Type 0
Clear t r = class_at t (t.segments - 1) ≡ SHARED → t.user ≤ r

-- a link fits when R - m is at least 256, the m bytes are no part of the user's, and the open records have a layout with R - m
pub record LinkFits (t : Tables) (m : ℕ) : Type 0 where
  pub least : 256 + m ≤ t.room
  pub clear : Clear t (t.room - m)
  pub layout : Layout (record_lengths t) (Outside t (t.room - m) (offered t))

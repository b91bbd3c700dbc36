-- The answers: 01's and 02's number and values for each; what a call decides; and the rule that the lowest number wins.
use Rattle.std.specs.Prelude.{Bool, cond, ◌||◌, List, [], ◌∷◌, ℕ, eqb}
use Rattle.kernel.specs.Definition.Bytes.{Change, nothing, Filling, unfilled}
use Rattle.kernel.specs.declared.Tables.{Tables}
use Rattle.kernel.specs.declared.Answer.{Answer}
use Rattle.kernel.specs.declared.Answer.TheVariants.{Done, BadTables, BadCall, NoChannel, Exists, BadName, NoDevice, Driver, Full, NoRoom, NoSegment, NotOwner, BadBoundary, BadRange, Guarded, BadFlags, BadStart, Shared, BadModule, BadPage}
use Rattle.kernel.specs.declared.Outcome.{Outcome}

abbrev pub number_of : Answer → ℕ
number_of (Done a b) = 0
number_of BadTables = 1
number_of BadCall = 2
number_of NoChannel = 3
number_of Exists = 4
number_of BadName = 5
number_of NoDevice = 6
number_of (Driver s) = 7
number_of Full = 8
number_of NoRoom = 9
number_of NoSegment = 10
number_of NotOwner = 11
number_of BadBoundary = 12
number_of BadRange = 13
number_of Guarded = 14
number_of BadFlags = 15
number_of BadStart = 16
number_of (Shared a b) = 17
number_of BadModule = 19
number_of BadPage = 20

-- "A refusal gives a = b = 0 but for DRIVER"; "a is that status"
abbrev pub a_of : Answer → ℕ
a_of (Done a b) = a
a_of BadTables = 0
a_of BadCall = 0
a_of NoChannel = 0
a_of Exists = 0
a_of BadName = 0
a_of NoDevice = 0
a_of (Driver s) = s
a_of Full = 0
a_of NoRoom = 0
a_of NoSegment = 0
a_of NotOwner = 0
a_of BadBoundary = 0
a_of BadRange = 0
a_of Guarded = 0
a_of BadFlags = 0
a_of BadStart = 0
a_of (Shared a b) = a
a_of BadModule = 0
a_of BadPage = 0

abbrev pub b_of : Answer → ℕ
b_of (Done a b) = b
b_of BadTables = 0
b_of BadCall = 0
b_of NoChannel = 0
b_of Exists = 0
b_of BadName = 0
b_of NoDevice = 0
b_of (Driver s) = 0
b_of Full = 0
b_of NoRoom = 0
b_of NoSegment = 0
b_of NotOwner = 0
b_of BadBoundary = 0
b_of BadRange = 0
b_of Guarded = 0
b_of BadFlags = 0
b_of BadStart = 0
b_of (Shared a b) = b
b_of BadModule = 0
b_of BadPage = 0

-- "0 is done. 17 SHARED is a grant": the call was done, and not refused
abbrev pub granted : Answer → Bool
granted answer = eqb (number_of answer) 0 || eqb (number_of answer) 17

-- an answer and the next tables, with nothing moved; what a close and a link move follows from their change of the RAM (Step.antt)
abbrev pub gives : Answer → Tables → Outcome
gives answer t = record { answer = answer; tables = t; moved = 0 }

-- what a call decides before a byte is touched: its answer, the next tables, the change of the RAM, and what fills the lent output
pub record Decision : Type 0 where
  pub answer : Answer
  pub tables : Tables
  pub ram : Change
  pub output : Filling

-- an answer and the next tables, with a change of the RAM and the output as it was, or with the output filled and the RAM as it was
abbrev pub ◌changing◌ : Outcome → Change → Decision
o changing change = record { answer = o.answer; tables = o.tables; ram = change; output = unfilled }

abbrev pub ◌filling◌ : Outcome → Filling → Decision
o filling bytes = record { answer = o.answer; tables = o.tables; ram = nothing; output = bytes }

infixl 60 ◌changing◌ ◌filling◌
-- a refusal, and the test that tells when it is given
pub data Refusal : Type 0 where
  ◌when◌ : Answer → Bool → Refusal

infixl 70 ◌when◌
-- "Several at once: the lowest number wins." The refusals of a call stand in the order of their numbers: the first that holds
-- is the answer, the tables stay and no byte changes; where none holds, the call is done. "A refused call returns the refusal's fixed values and changes
-- no table, no RAM byte and no byte of the lent output." (The invitation, condition 1.)
abbrev pub unless : List Refusal → Tables → Decision → Decision
unless [] t done = done
unless ((answer when holds) ∷ more) t done = cond holds (gives answer t changing nothing) (unless more t done)

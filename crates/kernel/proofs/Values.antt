-- The values of the refusals.
use mathlib.Core.Path.{◌≡◌, refl}
use mathlib.Core.List.{List, [], ◌∷◌}
use Prim.Native.Nat.{ℕ}
use denote.Enum.Declared.{tag_of}
use types.Run.{OneOf, miss}
use Rattle.kernel.specs.declared.Answer.{Answer}
use Rattle.kernel.specs.declared.Answer.TheVariants.{Done, BadTables, BadCall, NoChannel, Exists, BadName, NoDevice, Driver, Full, NoRoom, NoSegment, NotOwner, BadBoundary, BadRange, Guarded, BadFlags, BadStart, Shared, BadModule, BadPage}
use Rattle.kernel.specs.Definition.Answers.{a_of, b_of}
use Rattle.kernel.specs.contracts.Answer.{the_type}

-- the places of the refusals in the enum, but for DRIVER's
abbrev pub refusals : List ℕ
refusals = 1 ∷ 2 ∷ 3 ∷ 4 ∷ 5 ∷ 6 ∷ 8 ∷ 9 ∷ 10 ∷ 11 ∷ 12 ∷ 13 ∷ 14 ∷ 15 ∷ 16 ∷ 18 ∷ 19 ∷ []

-- "A refusal gives a = b = 0 but for DRIVER"
pub worth-nothing : (x : Answer) → OneOf refusals (tag_of the_type x) → (0 ≡ a_of x) × (0 ≡ b_of x)
worth-nothing (Done a b) k = absurd (miss refusals 0 tt k)
worth-nothing BadTables k = (refl, refl)
worth-nothing BadCall k = (refl, refl)
worth-nothing NoChannel k = (refl, refl)
worth-nothing Exists k = (refl, refl)
worth-nothing BadName k = (refl, refl)
worth-nothing NoDevice k = (refl, refl)
worth-nothing (Driver status) k = absurd (miss refusals 7 tt k)
worth-nothing Full k = (refl, refl)
worth-nothing NoRoom k = (refl, refl)
worth-nothing NoSegment k = (refl, refl)
worth-nothing NotOwner k = (refl, refl)
worth-nothing BadBoundary k = (refl, refl)
worth-nothing BadRange k = (refl, refl)
worth-nothing Guarded k = (refl, refl)
worth-nothing BadFlags k = (refl, refl)
worth-nothing BadStart k = (refl, refl)
worth-nothing (Shared a b) k = absurd (miss refusals 17 tt k)
worth-nothing BadModule k = (refl, refl)
worth-nothing BadPage k = (refl, refl)

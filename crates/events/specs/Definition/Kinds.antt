-- The kinds by their numbers, as 01 and order 3 give them.
use Rattle.std.specs.Prelude.{◌≡◌, ℕ, Result, MatchResult}
use Rattle.events.specs.declared.kinds.Kind.{Kind}
use Rattle.events.specs.declared.kinds.Kind.TheVariants.{Reset, Open, Close, Read, Write, Default, Status, Link, Boundary, SetUserBoundary, Allocate, Free, LoadModule, Start, Store, Load}
use Rattle.events.specs.declared.kinds.UnknownKind.{UnknownKind}

abbrev pub number_of : Kind → ℕ
number_of Reset = 0
number_of Open = 1
number_of Close = 3
number_of Read = 6
number_of Write = 8
number_of Default = 19
number_of Status = 20
number_of Link = 21
number_of Boundary = 22
number_of SetUserBoundary = 23
number_of Allocate = 24
number_of Free = 25
number_of LoadModule = 30
number_of Start = 256
number_of Store = 257
number_of Load = 258

-- the kind of this number, or no kind has it
abbrev pub Names : ℕ → Result Kind UnknownKind → Type 0
Names number r = MatchResult r (λ kind. number_of kind ≡ number) (λ e. (kind : Kind) → number_of kind ≡ number → ⊥)

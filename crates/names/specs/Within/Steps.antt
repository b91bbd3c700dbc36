-- What the steps of `parse` promise: they are right for every reading that the bytes at hand can belong to.
use Rattle.std.specs.Prelude.{ℕ, ◌+◌, ◌≡◌, List, length, Some, None}
use Rattle.std.specs.Prelude.{Option as Given}
use Rattle.std.proofs.Math.Option.{Option, none, some}
use Rattle.names.specs.Definition.Grammar.{Reading}
use Rattle.names.specs.Definition.Read.{with_unit, with_head}
use Rattle.names.specs.Definition.Parts.{unit, parts_of}
use Rattle.names.specs.declared.Parts.{Parts}

-- NAME where there is no reading
abbrev pub unit_in : Option Reading → Given (Given ℕ)
unit_in none = None
unit_in (some r) = Some (unit r)

-- between the device and the colon stands `rest`
abbrev pub OfRest : (rest : List ℕ) → Given (Given ℕ) → Type 0
OfRest rest u = (d f : List ℕ) → u ≡ unit_in (with_unit d rest f)

-- before the colon stands `head`
abbrev pub OfHead : (head : List ℕ) (at : ℕ) → Given Parts → Type 0
OfHead head at p = (f : List ℕ) → length head + 1 ≡ at → p ≡ parts_of (with_head head f)

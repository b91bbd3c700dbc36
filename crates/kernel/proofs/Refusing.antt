-- What a call leaves that changes no byte.
use mathlib.Core.Path.{◌≡◌}
use mathlib.Core.List.{List}
use Prim.Native.Nat.{ℕ}
use Rattle.kernel.specs.Definition.Bytes.{nothing}
use Rattle.kernel.specs.Definition.Answers.{gives, Decision, ◌changing◌}
use Rattle.kernel.specs.Definition.Step.{completed, result_of}
use Rattle.kernel.specs.declared.Tables.{Tables}
use Rattle.kernel.specs.declared.Answer.{Answer}
use Rattle.kernel.specs.declared.Outcome.{Outcome}

-- a call that is refused, or done on the tables alone
pub quietly : (t : Tables) (answer : Answer) (u : Tables) (d : Decision) (r : Outcome) → r ≡ gives answer u → d ≡ (gives answer u changing nothing) → (ram out : List ℕ)
    → result_of r ram out ≡ completed t d ram out
unfolding completed
quietly t answer u d r q e ram out = rw (q, e)

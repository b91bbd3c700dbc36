-- A public call: refused for its tables, or what the call does on good ones.
use mathlib.Core.Path.{◌≡◌, refl, ◌∙◌}
use mathlib.Core.Bool.{Bool, true, false, cond, not, ◌||◌}
use mathlib.Core.List.{List}
use Prim.Native.Nat.{ℕ}
use lib.ListN.{length}
use Rattle.kernel.specs.Definition.Answers.{gives, Decision, ◌changing◌}
use Rattle.kernel.specs.Definition.Calls.{Call, is_start}
use Rattle.kernel.specs.Definition.Bytes.{nothing}
use Rattle.kernel.specs.Definition.Step.{ready_test, heard, decided, result_of, completed, step}
use Rattle.kernel.specs.declared.Tables.{Tables}
use Rattle.kernel.specs.declared.Outcome.{Outcome}
use Rattle.kernel.specs.declared.Answer.TheVariants.{BadTables}

module _ (t : Tables) (ram : List ℕ) (c : Call) (out : List ℕ) (r : Outcome) where
  pub call_refused : false ≡ ready_test t (length ram) → is_start c ≡ false → r ≡ gives BadTables t → result_of r ram out ≡ step t ram c out
  unfolding step decided completed
  call_refused n s q = rw (q, s, ← n)

  heard_by : (s b : Bool) (d : Decision) → true ≡ b → cond (not (s || b)) (gives BadTables t changing nothing) d ≡ d
  heard_by true b d e = refl
  heard_by false b d e = rw (← e)

  pub call_done : true ≡ ready_test t (length ram) → (ram' out' : List ℕ) → result_of r ram' out' ≡ completed t (heard t (length ram) (length out) c) ram out
      → result_of r ram' out' ≡ step t ram c out
  unfolding step decided
  call_done y ram' out' q = q ∙ rw (heard_by (is_start c) (ready_test t (length ram)) (heard t (length ram) (length out) c) y)

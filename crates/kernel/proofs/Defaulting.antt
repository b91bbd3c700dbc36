-- The branches of default, as the code takes them.
use mathlib.Core.Path.{◌≡◌}
use mathlib.Core.Bool.{true, false}
use mathlib.Core.List.{List}
use Prim.Native.Nat.{ℕ}
use native.Mathlib.Omega.{arith}
use lib.ListN.{length, take}
use lib.Seq.{take_all}
use Rattle.names.specs.Definition.Words.{word_of}
use Rattle.names.specs.Definition.Tests.{default_name_test}
use Rattle.kernel.specs.Definition.Tables.{with_default}
use Rattle.kernel.specs.Definition.Bytes.{nothing}
use Rattle.kernel.specs.Definition.Answers.{gives, ◌changing◌}
use Rattle.kernel.specs.Definition.Calls.{on_default}
use Rattle.kernel.specs.declared.Tables.{Tables}
use Rattle.kernel.specs.declared.Answer.TheVariants.{Done, BadName}

module _ (t : Tables) (unit : ℕ) (name : List ℕ) where
  pub default-refused : false ≡ default_name_test name → on_default t unit name ≡ gives BadName t changing nothing
  unfolding on_default
  default-refused n = rw (← n)

  pub default-done : true ≡ default_name_test name → (capitals : List ℕ) → capitals ≡ word_of (take (length name) name)
      → on_default t unit name ≡ gives (Done 0 0) (with_default t capitals (length name) unit) changing nothing
  unfolding on_default
  default-done y capitals w = rw (w, take_all (length name) name (omega arith), ← y)

-- What every state that a sequence reaches is said to have. 1 TABLES is given for "tables not good, or RAM length wrong", and so for no call of a sequence.
use Rattle.std.specs.Prelude.{◌≡◌, List, [], ◌∷◌, ℕ, length}
use Rattle.kernel.specs.Definition.Tables.{ram_size}
use Rattle.kernel.specs.Definition.Good.{Good}
use Rattle.kernel.specs.Definition.Calls.{Call}
use Rattle.kernel.specs.declared.Answer.TheVariants.{BadTables}
use Rattle.history.specs.Definition.Runs.{State, History, event}

-- the tables are good, the RAM has their length, and the next call, whichever it is, is not answered TABLES
pub record GoodState (s : State) : Type 0 where
  pub good : Good s.tables
  pub size : length s.ram ≡ ram_size s.tables
  pub heard : (c : Call) (output : List ℕ) → ¬ ((event s c output).answer ≡ BadTables)

-- no call of a history was answered TABLES
abbrev pub NeverTables : History → Type 0
NeverTables [] = Unit {0}
NeverTables (e ∷ h) = ¬ (e.answer ≡ BadTables) × NeverTables h

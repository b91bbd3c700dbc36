-- "Condition 3 reads a load as one user store per byte." (Order 3.)
use Rattle.std.specs.Prelude.{◌≡◌, true, List, [], ◌∷◌, ◌↔◌, ℕ, length}
use Rattle.modules.specs.Definition.Counter.{Counts, counter, Put}
use Rattle.modules.specs.Definition.Judging.{puts_in}
use Rattle.modules.specs.Definition.Items.{IsModule}
use Rattle.modules.specs.Definition.Reading.{looked_at}
use Rattle.modules.specs.Definition.Faults.{FaultlessFrom}
use Rattle.modules.specs.declared.Item.{Item}
use Rattle.kernel.specs.Definition.Tables.{ram_size}
use Rattle.kernel.specs.Definition.Good.{Good}
use Rattle.kernel.specs.Definition.Answers.{granted}
use Rattle.kernel.specs.Definition.Calls.{Call, store, load-module, target_of}
use Rattle.kernel.specs.Definition.Refusals.{InList, Reached}
use Rattle.kernel.specs.declared.Tables.{Tables}
use Rattle.kernel.specs.declared.Answer.TheVariants.{Done}
use Rattle.history.specs.Definition.Runs.{State, after, event}

-- the call by which the user stores one byte
abbrev pub storing : (segment : ℕ) → Put → Call
storing segment p = store segment p.offset (p.byte ∷ [])

-- from one state the stores of these bytes, one call each and each of them done, lead to another
pub data StoresEach (segment : ℕ) (output : List ℕ) : State → List Put → State → Type 0 where
  stay : {s : State} → StoresEach segment output s [] s
  then : {s t : State} {p : Put} {puts : List Put} → granted (event s (storing segment p) output).answer ≡ true
      → StoresEach segment output (after s (storing segment p) output) puts t → StoresEach segment output s (p ∷ puts) t

-- Of good tables and RAM of their size, as every reachable state has: a done load of a module leaves the tables and the RAM that the stores of its bytes leave
abbrev pub LoadsAsStores : Type 0
LoadsAsStores =
    (s : State) → Good s.tables → length s.ram ≡ ram_size s.tables → (segment page offset : ℕ) (stream output : List ℕ)
    → granted (event s (load-module segment page offset stream) output).answer ≡ true
    → StoresEach segment output s (puts_in page offset stream) (after s (load-module segment page offset stream) output)

-- what a done load of a module is: a start within its range, a segment that the user reaches, and a stream whose first b bytes are a module without fault
pub record Loads (t : Tables) (segment page offset : ℕ) (stream : List ℕ) (b : ℕ) : Type 0 where
  pub start : Counts (counter page offset)
  pub row : ℕ
  pub listed : InList t segment row
  pub reached : Reached t row
  pub items : List Item
  pub are : IsModule (looked_at stream) items b
  pub faultless : FaultlessFrom (target_of t row page) (counter page offset) items

-- A load is done exactly then, and "b is the bytes used, a is 0"
abbrev pub LoadsExactly : Type 0
LoadsExactly =
    (s : State) → Good s.tables → length s.ram ≡ ram_size s.tables → (segment page offset : ℕ) (stream output : List ℕ) (b : ℕ)
    → ((event s (load-module segment page offset stream) output).answer ≡ Done 0 b) ↔ Loads s.tables segment page offset stream b

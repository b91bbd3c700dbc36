-- "passes every earlier check": the checks of an open before that for room, each by itself.
use Rattle.std.specs.Prelude.{◌≡◌, List, ℕ, ◌<◌}
use Rattle.names.specs.Definition.Grammar.{Reading, Reads}
use Rattle.kernel.specs.Definition.Tables.{ram_size}
use Rattle.kernel.specs.Definition.Good.{Good}
use Rattle.kernel.specs.Definition.Names.{wanted}
use Rattle.kernel.specs.Definition.Refusals.{OpenAt, Enabled}
use Rattle.kernel.specs.declared.Tables.{Tables}

-- the tables are good and RAM of their size is lent; the channel is a number and not open; the name reads, and an enabled device has it;
-- the driver's status is 0; and there is a row left
pub record Checks (t : Tables) (ram channel driver : ℕ) (name : List ℕ) (r : Reading) (i : ℕ) : Type 0 where
  pub good : Good t
  pub size : ram ≡ ram_size t
  pub number : channel < 255
  pub new : (j : ℕ) → ¬ OpenAt t channel j
  pub reads : Reads name r
  pub device : Enabled t (wanted t r) i
  pub driven : driver ≡ 0
  pub few : t.opened < 32

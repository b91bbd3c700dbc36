-- The branches of start, as the code takes them.
use mathlib.Core.Path.{◌≡◌}
use mathlib.Core.Bool.{Bool, true, false, ◌&&◌}
use mathlib.Core.List.{List}
use Prim.Native.Nat.{ℕ, ◌-◌, ◌*◌, ◌≤◌}
use lib.Dec.{leb, eqb}
use lib.ListN.{length, take, set, replicate}
use lib.Seq.{take_all}
use Rattle.rows.specs.Definition.Lists.{padded}
use Rattle.rows.specs.Definition.Classes.{start_classes}
use Rattle.rows.specs.Definition.Devices.{built_in}
use Rattle.rows.specs.Definition.Tests.{list_test}
use Rattle.rows.specs.declared.Device.{Device}
use Rattle.kernel.specs.Definition.Start.{start_test, started, no_tables}
use Rattle.kernel.specs.Definition.Answers.{gives}
use Rattle.kernel.specs.Definition.Calls.{start, on_start}
use Rattle.kernel.specs.Definition.Bytes.{ram_after, output_after}
use Rattle.kernel.specs.Definition.Step.{heard, decided, completed, result_of, step}
use Rattle.kernel.specs.declared.Tables.{Tables}
use Rattle.kernel.specs.declared.Outcome.{Outcome}
use Rattle.kernel.specs.declared.Answer.TheVariants.{Done, BadStart}

pub start-tested : (ram room : ℕ) (list laid : List ℕ) (fine : Bool) → length list ≤ 32 → laid ≡ padded 32 (take 32 list) → fine ≡ list_test laid (length list)
    → fine && leb 256 room && leb room 16128 && eqb ram (16384 * length list) ≡ start_test ram room list
start-tested ram room list laid fine h l f = rw (f, l, take_all 32 list h)

pub start-tables : (room : ℕ) (list laid classes : List ℕ) (devices : List Device) (none : Tables) → length list ≤ 32 → none ≡ no_tables
    → laid ≡ padded 32 (take 32 list) → classes ≡ start_classes (length list) → devices ≡ built_in
    → ◌≡◌ {A = Tables} (record {
      segments = length list;
      list = laid;
      classes = classes;
      held = 1;
      chain = set none.chain 0 (length list - 1);
      user = none.user;
      room = room;
      cold = room;
      opened = none.opened;
      channels = none.channels;
      known = 3;
      devices = devices;
      name = none.name;
      length = none.length;
      unit = none.unit;
    }) (started room list)
unfolding started no_tables
start-tables room list laid classes devices none k n l c d = rw (n, l, c, d, take_all 32 list k)

module _ (t : Tables) (ram : List ℕ) (room : ℕ) (list out : List ℕ) (o : Outcome) where
  pub start-refused : false ≡ start_test (length ram) room list → o ≡ gives BadStart t → result_of o ram out ≡ step t ram (start room list) out
  unfolding step decided heard on_start completed
  start-refused n q = rw (q, ← n)

  pub start-done : true ≡ start_test (length ram) room list → (next : Tables) (zeros : List ℕ) → next ≡ started room list → zeros ≡ replicate (length ram) 0
      → o ≡ gives (Done next.segments room) next → result_of o zeros out ≡ step t ram (start room list) out
  unfolding step decided heard on_start completed ram_after output_after started
  start-done y next zeros p z q = rw (q, p, z, ← y)

-- The branches of link, as the code takes them.
use mathlib.Core.Path.{◌≡◌, refl, sym}
use mathlib.Core.Bool.{Bool, true, false, not, ◌||◌}
use mathlib.Core.List.{List, map}
use Prim.Native.Nat.{ℕ, ◌+◌, ◌-◌, ◌≤◌, ◌<◌}
use native.Mathlib.Omega.{arith}
use borrow.Author.Tests.{le-leb, lt-leb, ltb-false, not-false}
use lib.Dec.{ltb}
use lib.ListN.{length, set}
use Rattle.rows.specs.Definition.Devices.{disabled_by}
use Rattle.rows.specs.Definition.Sizes.{chain_length}
use Rattle.rows.specs.Laws.Lists.{or_left, or_right, not-not}
use Rattle.rows.specs.declared.Device.{Device}
use Rattle.names.specs.Laws.Runs.{link-right}
use Rattle.names.specs.Definition.Tests.{link_name_test}
use Rattle.names.specs.Definition.Words.{LinkName}
use Rattle.line.specs.Within.Chains.{Chain}
use Rattle.line.specs.Definition.Line.{after_link}
use Rattle.line.specs.Definition.Moves.{link_moves}
use Rattle.kernel.specs.Definition.Tables.{ram_size, with_devices}
use Rattle.kernel.specs.Definition.Good.{Good}
use Rattle.kernel.specs.Definition.Line.{total_of, grown, room_for}
use Rattle.kernel.specs.Definition.Devices.{linking, device_named}
use Rattle.kernel.specs.Definition.Bytes.{nothing, lowered}
use Rattle.kernel.specs.Definition.Answers.{gives, ◌changing◌}
use Rattle.kernel.specs.Definition.Calls.{on_link}
use Rattle.kernel.specs.Definition.Step.{completed, result_of}
use Rattle.line.specs.declared.Line.{Line}
use Rattle.kernel.specs.Within.{Links, room_to_link, line_of}
use Rattle.kernel.specs.Laws.Arrays.{link-default, word_good}
use Rattle.kernel.specs.Laws.Links.{linking-room, linking-held, linking-chain}
use Rattle.kernel.specs.declared.Tables.{Tables}
use Rattle.kernel.specs.declared.Answer.TheVariants.{Done, BadName, Full, NoRoom}

-- the device added
module _ (t : Tables) (m : ℕ) (d : Device) (total long held more : ℕ) (b : total ≡ total_of t)
    (e : long ≡ chain_length (t.room - m) total) (f : held ≡ t.held) (o : more ≡ long - held) where
  growth : more ≡ chain_length (t.room - m) (total_of t) - t.held
  growth = rw (o, f, e, b)

  pub device-held : Good t → Links t m d → t.held + more ≤ 32
  device-held g l = rw growth (linking-held t m d g l)

  pub device-made : (rows : List Device) (known : ℕ) (after : Tables) → rows ≡ map (disabled_by d.name d.length) t.devices → known ≡ t.known
      → after ≡ grown more (with_devices t (t.room - m) (t.known + 1) (set rows known d)) → after ≡ linking t m d
  unfolding linking
  device-made rows known after q k h = rw (h, growth, k, q)

pub is_name : (name : List ℕ) → true ≡ link_name_test name → LinkName name
is_name name y = link-right name (sym y)

-- the name, the number of devices, and the room
module _ (t : Tables) (m : ℕ) (name : List ℕ) where
  pub link-unnamed : false ≡ link_name_test name → on_link t m name ≡ gives BadName t changing nothing
  unfolding on_link
  link-unnamed n = rw (← n)

  module _ (named : true ≡ link_name_test name) where
    pub link-full : 16 ≤ t.known → on_link t m name ≡ gives Full t changing nothing
    unfolding on_link
    link-full h = rw (← named, le-leb _ _ h)

    module _ (few : t.known < 16) where
      abbrev refused : Bool
      refused = ltb t.room (256 + m) || not (room_for t (t.room - m) (total_of t))

      room-rule : (b : Bool) → b ≡ room_to_link t m → refused ≡ not b
      room-rule b e = rw e (sym (not-not refused))

      pub link-none : false ≡ room_to_link t m → on_link t m name ≡ gives NoRoom t changing nothing
      unfolding on_link
      link-none n = rw (← named, lt-leb _ _ few, room-rule false n)

      pub link-answer : true ≡ room_to_link t m → on_link t m name ≡ gives (Done t.known (t.room - m)) (linking t m (device_named name)) changing lowered m
      unfolding on_link
      link-answer y = rw (← named, lt-leb _ _ few, room-rule true y)

      pub links-of : true ≡ room_to_link t m → Links t m (device_named name)
      links-of y =
          let fits = room-rule true y in
          record {
            named = word_good name (link-default name (is_name name named));
            some = (is_name name named).0;
            on = refl;
            few = few;
            least = ltb-false _ _ (or_left (ltb t.room (256 + m)) _ fits);
            room = not-false _ (or_right (ltb t.room (256 + m)) _ fits);
          }

-- the line moved
module _ (t : Tables) (m : ℕ) (d : Device) (g : Good t) (k : Links t m d) (next : Tables) (e : next ≡ linking t m d) (l : Line) (w : l ≡ line_of next)
    (room size total : ℕ) (a : room ≡ t.room) (b : size ≡ m) (s : total ≡ total_of t) where
  pub link-chain : (bytes : ℕ) → bytes ≡ ram_size t → (size ≤ room) × Chain l.chain room (total + size) bytes
  link-chain bytes h = (omega (arith, k.least), rw (a, b, s, w, e) (linking-chain t m d g k bytes h))

  pub link-done : (name ram after out : List ℕ) (moved : ℕ) → after ≡ after_link l.chain room size ram total → moved ≡ length (link_moves l.chain room size total)
      → on_link t m name ≡ gives (Done t.known (t.room - m)) (linking t m d) changing lowered m
      → result_of (record { answer = Done t.known next.room; tables = next; moved = moved }) after out ≡ completed t (on_link t m name) ram out
  unfolding completed
  link-done name ram after out moved h n o = rw (h, n, w, a, b, s, o, e, linking-room t m d g k)

-- The branches of reset, as the code takes them.
use mathlib.Core.Path.{◌≡◌}
use mathlib.Core.Bool.{true, false, cond}
use mathlib.Core.List.{List, map}
use Prim.Native.Nat.{ℕ, ◌-◌, ◌≤◌, ◌<◌}
use native.Mathlib.Omega.{arith}
use lib.ListN.{get_or, replicate}
use Rattle.rows.specs.Definition.Classes.{released}
use Rattle.rows.specs.Definition.Channels.{zero_channel}
use Rattle.rows.specs.Definition.Devices.{built_in}
use Rattle.rows.specs.declared.Channel.{Channel}
use Rattle.rows.specs.declared.Device.{Device}
use Rattle.line.specs.Within.Chains.{Chain}
use Rattle.kernel.specs.Definition.Tables.{ram_size, with_segments, with_channels, with_devices}
use Rattle.kernel.specs.Definition.Good.{Good}
use Rattle.kernel.specs.Definition.Line.{total_of, shrunk}
use Rattle.kernel.specs.Definition.Reset.{other_bits, bit5, bit6, closes_all, emptying, restoring, releasing, resetting}
use Rattle.kernel.specs.Definition.Answers.{gives}
use Rattle.kernel.specs.Definition.Calls.{on_reset}
use Rattle.kernel.specs.Definition.Bytes.{ram_reset}
use Rattle.kernel.specs.Definition.Step.{completed, result_of}
use Rattle.line.specs.declared.Line.{Line}
use Rattle.kernel.specs.Within.{line_of}
use Rattle.kernel.specs.Laws.Chains.{good-chain}
use Rattle.kernel.specs.declared.Tables.{Tables}
use Rattle.kernel.specs.declared.Outcome.{Outcome}
use Rattle.kernel.specs.declared.Answer.TheVariants.{Done, BadFlags}

-- the tables with no channel open
pub none_left : (t : Tables) (held : ℕ) → held ≡ t.held → (channels : List Channel) → channels ≡ replicate 32 zero_channel → (after : Tables)
    → after ≡ shrunk (held - 1) (with_channels t 0 channels) → after ≡ emptying t
unfolding emptying
none_left t held m channels e after a = rw (a, e, m)

pub none-behind : (t : Tables) (opened : ℕ) → opened ≡ t.opened → Good t
    → (opened ≤ 32) × ((i : ℕ) → opened ≤ i → i < 32 → get_or t.channels i zero_channel ≡ zero_channel)
none-behind t opened e g = (omega (arith, g.channels.most), λ i a b. g.channels.rest i (omega arith) b)

pub devices-restored : (t : Tables) (devices : List Device) → devices ≡ built_in → with_devices t t.cold 3 devices ≡ restoring t
unfolding restoring
devices-restored t devices e = rw e

pub segments-released : (t : Tables) (classes : List ℕ) → classes ≡ map released t.classes → with_segments t classes t.held t.chain 0 ≡ releasing t
unfolding releasing
segments-released t classes e = rw e

pub tables-reset : (t : Tables) (flags : ℕ) (u v w : Tables) → u ≡ cond (closes_all flags) (emptying t) t → v ≡ cond (bit5 flags) (restoring u) u
    → w ≡ cond (bit6 flags) (releasing v) v → w ≡ resetting t flags
unfolding resetting
tables-reset t flags u v w a b c = rw (c, b, a)

-- the line's bytes
pub line_chain : (t : Tables) (l : Line) (total size : ℕ) → l ≡ line_of t → total ≡ total_of t → Good t → size ≡ ram_size t → (0 ≤ total) × Chain l.chain l.room total size
line_chain t l total size w s g e = (omega arith, rw (w, s) (good-chain t size g e))

module _ (t : Tables) (flags : ℕ) (ram out : List ℕ) (o : Outcome) where
  pub reset-refused : true ≡ other_bits flags → o ≡ gives BadFlags t → result_of o ram out ≡ completed t (on_reset t flags) ram out
  unfolding completed on_reset
  reset-refused y q = rw (q, ← y)

  pub reset-done : false ≡ other_bits flags → (next : Tables) (after : List ℕ) → next ≡ resetting t flags → after ≡ ram_reset t ram flags → o ≡ gives (Done 0 0) next
      → result_of o after out ≡ completed t (on_reset t flags) ram out
  unfolding completed on_reset
  reset-done n next after e a q = rw (q, e, a, ← n)

-- When a device may be linked, and what the code of link needs of the next tables.
use Rattle.std.specs.Prelude.{◌≡◌, ℕ, ◌+◌, ◌-◌, ◌≤◌}
use Rattle.std.proofs.Common.{arith}
use Rattle.rows.specs.Definition.Devices.{added}
use Rattle.rows.specs.Definition.Sizes.{chain_length}
use Rattle.rows.specs.declared.Device.{Device}
use Rattle.line.specs.Within.Chains.{Chain}
use Rattle.kernel.specs.Definition.Tables.{ram_size, with_devices}
use Rattle.kernel.specs.Definition.Good.{Good}
use Rattle.kernel.specs.Within.{Links}
use Rattle.kernel.specs.Definition.Line.{total_of}
use Rattle.kernel.specs.Definition.Devices.{linking}
use Rattle.kernel.specs.Laws.Body.{keeps-total}
use Rattle.kernel.specs.Laws.Facts.{room_small}
use Rattle.kernel.specs.Laws.Grow.{Grown, grown-rest}
use Rattle.kernel.specs.Laws.KeptNames.{linking-keeps}
use Rattle.kernel.specs.Laws.Chains.{good-chain, chain-shift}
use Rattle.kernel.specs.declared.Tables.{Tables}

module _ (t : Tables) (m : ℕ) (d : Device) (g : Good t) (l : Links t m d) where
  pub linking-good : Good (linking t m d)
  linking-good = linking-keeps t m d g l.few l.named l.some l.on l.least l.room

  -- what the next tables have besides, as the chain grew
  linking-rest : Grown (with_devices t (t.room - m) (t.known + 1) (added t.devices t.known d)) (linking t m d)
  unfolding linking
  linking-rest =
      grown-rest (chain_length (t.room - m) (total_of t) - t.held)
      (with_devices t (t.room - m) (t.known + 1) (added t.devices t.known d))

  pub linking-room : (linking t m d).room ≡ t.room - m
  linking-room = linking-rest.keeps.room

  -- there are as many segments as the chain grows by
  pub linking-held : t.held + (chain_length (t.room - m) (total_of t) - t.held) ≤ 32
  linking-held =
      let r = linking-rest.keeps in
      let line : (linking t m d).held ≡ chain_length (t.room - m) (total_of t) = rw (r.room, keeps-total r) at linking-good.line in
      omega (arith, linking-good.chain.most, g.chain.most)

  pub linking-chain : (size : ℕ) → size ≡ ram_size t → Chain (linking t m d).chain t.room (total_of t + m) size
  linking-chain size e =
      let u = linking t m d in
      let r = linking-rest in
      let k : Chain u.chain u.room (total_of u) size = good-chain u size linking-good (rw r.keeps.segments e) in
      chain-shift u.chain t.room m (total_of t) size (omega (arith, l.least)) (room_small t g) (rw (r.keeps.room, keeps-total r.keeps) at k)

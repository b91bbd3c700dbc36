-- What good tables say of the chain's length and the segment 255, as the counts of places need it.
use Rattle.std.specs.Prelude.{◌≡◌, true, ◌-◌, ◌≤◌}
use Rattle.std.proofs.Common.{sym, ◌∙◌, arith}
use Rattle.std.proofs.Math.Decide.{dec_le}
use Rattle.rows.specs.Definition.Classes.{SHARED}
use Rattle.kernel.specs.Definition.Tables.{class_at}
use Rattle.kernel.specs.Definition.Line.{total_of}
use Rattle.kernel.specs.Definition.Good.{Good}
use Rattle.kernel.specs.Laws.Facts.{chain-exactly, top-held}
use Rattle.kernel.specs.Laws.Room.{line-sum}
use Rattle.kernel.specs.declared.Tables.{Tables}
use Rattle.history.specs.Definition.Places.{in_system}
use Rattle.history.specs.Bytes.Places.{held_in}

module _ (t : Tables) (g : Good t) where
  -- "255 is always held."
  pub top_in : in_system t (t.segments - 1) ≡ true
  top_in = held_in t (t.segments - 1) (top-held t g)

  -- "a shared segment is the chain's last": 255 shared is the whole chain
  pub top-alone : class_at t (t.segments - 1) ≡ SHARED → t.held ≡ 1
  top-alone e =
      let s : 1 ≤ t.segments = omega (arith, g.list.least) in
      elim (dec_le t.held 1) [
        | yes h ↦ omega (arith, g.chain.holds)
        | no h ↦ absurd ((chain-exactly t g).once 0 (t.held - 1) (omega arith) (omega arith) (g.chain.starts ∙ sym (g.chain.last (t.segments - 1) (omega arith) e)))
      ]

  -- the user's part of 255 lies below R
  pub top-clear : class_at t (t.segments - 1) ≡ SHARED → t.user ≤ t.room
  top-clear e = omega (arith, g.user.most, line-sum t.room (total_of t), g.line, top-alone e)

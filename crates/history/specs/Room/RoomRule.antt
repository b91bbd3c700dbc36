-- The room rule holds exactly when the records have a layout in the places held outside the user's part and, if nothing is shared, in the free segments.
use Rattle.std.specs.Prelude.{◌≡◌, refl, Bool, true, false, ◌↔◌, List, ℕ, ◌+◌, ◌-◌, ◌*◌, ◌≤◌, ◌<◌, length}
use Rattle.std.proofs.Common.{sym, ◌∙◌, arith}
use Rattle.rows.specs.Definition.Lists.{at}
use Rattle.rows.specs.Laws.Lists.{or-none}
use Rattle.rows.specs.Laws.Says.{Says}
use Rattle.rows.specs.Definition.Classes.{FREE, SHARED}
use Rattle.rows.specs.Definition.Sizes.{chain_length}
use Rattle.kernel.specs.Definition.Tables.{class_at, count_of, sharing}
use Rattle.kernel.specs.Definition.Line.{room_for}
use Rattle.kernel.specs.Definition.Good.{Good}
use Rattle.kernel.specs.Laws.Body.{body}
use Rattle.kernel.specs.Laws.Facts.{chain-exactly, user-small}
use Rattle.kernel.specs.Laws.Room.{shares-no, room-in-bytes}
use Rattle.kernel.specs.Within.{spare}
use Rattle.kernel.specs.declared.Tables.{Tables}
use Rattle.history.specs.Room.Sums.{total}
use Rattle.history.specs.Definition.Layout.{Layout}
use Rattle.history.specs.Definition.Places.{count_in, offered, in_system, Outside}
use Rattle.history.specs.Room.Counts.{outside-exists, offered-shared, offered-apart}
use Rattle.history.specs.Room.Bounds.{top_in, top-alone}
use Rattle.history.specs.Definition.Room.{Clear}

module _ (t : Tables) (g : Good t) (r : ℕ) (small : r ≤ 16384) (lengths : List ℕ) (long : t.held ≤ chain_length r (total lengths)) where
  fits : (c : Clear t r) → Layout lengths (Outside t r (offered t)) ↔ (total lengths + t.user ≤ r + 16384 * (count_in t.segments (offered t) - 1))
  fits c = outside-exists t g r (offered t) small (user-small t g) (λ row b e. rw e) c lengths (rw (top_in t g))

  rule : Says (room_for t r (total lengths)) (total lengths + t.user ≤ r + 16384 * (t.held - 1 + spare t))
  rule = room-in-bytes t (body t g) r (total lengths) long

  room_by : (s : Bool) → sharing t ≡ s → (room_for t r (total lengths) ≡ true) ↔ (Layout lengths (Outside t r (offered t)) × Clear t r)
  room_by true s =
      let n = offered-shared t g s in
      let h = g.chain.holds in
      let none : spare t ≡ 0 = rw s in (
        λ e. let c : Clear t r = λ q. omega (arith, rule.yes e, top-alone t g q) in ((fits c).1 (omega (arith, rule.yes e)), c),
        λ l. rule.make (omega (arith, (fits l.1).0 l.0)),
      )
  room_by false s =
      let n = offered-apart t g s in
      let z : t.user ≡ 0 = g.user.none (shares-no t (body t g) s) in
      let c : Clear t r = λ q. omega arith in
      let h = g.chain.holds in
      let free : spare t ≡ count_of FREE t = rw s in
      (λ e. ((fits c).1 (omega (arith, rule.yes e)), c), λ l. rule.make (omega (arith, (fits c).0 l.0)))

  -- for a line no shorter than the present one
  pub room-layout : (room_for t r (total lengths) ≡ true) ↔ (Layout lengths (Outside t r (offered t)) × Clear t r)
  room-layout = room_by (sharing t) refl

  -- a layout of any byte at all leaves it whole
  pub layout-clear : 1 ≤ length lengths → 1 ≤ at lengths 0 → Layout lengths (Outside t r (offered t)) → Clear t r
  layout-clear h k l q =
      let s : sharing t ≡ true = shared (sharing t) refl q in
      let p = l.placed 0 0 in
      let o : Outside t r (offered t) p = l.inside 0 0 (record { record-known = h; in-record = k }) in
      let e : p.row ≡ t.segments - 1 = alone p.row s o.place.known o.place.chosen q in
      omega (arith, o.place.room e, o.outside (rw e q))
    where
      shared : (b : Bool) → sharing t ≡ b → class_at t (t.segments - 1) ≡ SHARED → sharing t ≡ true
      shared true e q = e
      shared false e q = absurd (shares-no t (body t g) e (rw (g.chain.last (t.segments - 1) (omega (arith, g.list.least)) q) q))

      alone : (row : ℕ) → sharing t ≡ true → row < t.segments → offered t row ≡ true → class_at t (t.segments - 1) ≡ SHARED → row ≡ t.segments - 1
      alone row s b c q =
          let held : in_system t row ≡ true = sym (or-none (in_system t row)) ∙ (rw s at c) in
          let (i, w, e) = (chain-exactly t g).all row b (rw held (omega arith)) in
          let z : i ≡ 0 = omega (arith, top-alone t g q) in
          sym e ∙ rw z g.chain.starts

-- "An open that passes every earlier check is refused for room exactly when no such layout fits" (condition 3); and a link exactly when `LinkFits` does not
-- hold, which asks more than a layout.
use Rattle.std.specs.Prelude.{◌≡◌, refl, ◌↔◌, List, [], ◌∷◌, ℕ, zero, suc, ◌+◌, ◌-◌, ◌≤◌, length, take}
use Rattle.std.proofs.Common.{arith}
use Rattle.rows.specs.Definition.Lists.{at}
use Rattle.rows.specs.Definition.Sizes.{chain_length}
use Rattle.rows.specs.declared.Channel.{Channel}
use Rattle.kernel.specs.Definition.Line.{total_of}
use Rattle.kernel.specs.Definition.Good.{Sized, Good}
use Rattle.kernel.specs.Definition.Calls.{«open», link}
use Rattle.kernel.specs.Definition.Step.{decided}
use Rattle.kernel.specs.Laws.Facts.{no-shorter, room_small}
use Rattle.kernel.specs.declared.Tables.{Tables}
use Rattle.kernel.specs.declared.Answer.{Answer}
use Rattle.history.specs.Room.Sums.{total, total-append}
use Rattle.history.specs.Definition.Layout.{Layout}
use Rattle.history.specs.Definition.Places.{lengths_of, record_lengths, offered, Outside}
use Rattle.history.specs.Room.Counts.{total-records}
use Rattle.history.specs.Room.Bounds.{top-clear}
use Rattle.history.specs.Room.RoomRule.{room-layout, layout-clear}
use Rattle.history.specs.Definition.Room.{Passes, OnlyRoom, records_and, LinkFits}
use Rattle.history.specs.Room.Earlier.{passes-ready, open-left, link_left}

-- what fits, said otherwise
left_as : {answer : Answer} {P Q : Type 0} → OnlyRoom answer P → P ↔ Q → OnlyRoom answer Q
left_as l e = record { refused = (λ a q. l.refused.0 a (e.1 q), λ n. l.refused.1 (λ x. n (e.0 x))); done = λ q. l.done (e.1 q) }

-- the first record has 16 bytes and more
first-record : (cs : List Channel) (n : ℕ) → 1 ≤ n → 1 ≤ length cs → (1 ≤ length (lengths_of (take n cs))) × (1 ≤ at (lengths_of (take n cs)) 0)
first-record [] n h l = absurd (omega arith)
first-record (c ∷ cs) zero h l = absurd (omega arith)
first-record (c ∷ cs) (suc n) h l = (omega arith, omega arith)

-- of an open that passes every earlier check: "in the places the system holds outside the user's part and, if nothing is shared, in the free segments"
pub open-exactly : (t : Tables) (ram output channel driver n : ℕ) (name : List ℕ) → Sized t → Passes t ram output («open» channel driver n name)
    → OnlyRoom (decided t ram output («open» channel driver n name)).answer (Layout (records_and t n) (Outside t t.room (offered t)))
open-exactly t ram output channel driver n name s p =
    let g : Good t = (passes-ready t ram output («open» channel driver n name) s refl p).good in
    let long : total (records_and t n) ≡ total_of t + (16 + n) =
    omega (arith, total-append (record_lengths t) ((16 + n) ∷ []), total-records (take t.opened t.channels)) in
    let rule = room-layout t g t.room (room_small t g) (records_and t n)
    (no-shorter t g t.room (total (records_and t n)) (omega arith) (omega arith)) in
    left_as (open-left t ram output channel driver n name s p) ((λ h. (rule.0 (rw long h)).0), λ l. rw (← long) (rule.1 (l, top-clear t g)))

module _ (t : Tables) (ram output m : ℕ) (name : List ℕ) (s : Sized t) (p : Passes t ram output (link m name)) where
  good : Good t
  good = (passes-ready t ram output (link m name) s refl p).good

  long : total (record_lengths t) ≡ total_of t
  long = total-records (take t.opened t.channels)

  small : t.room - m ≤ 16384
  small = omega (arith, room_small t good)

  chain : t.held ≤ chain_length (t.room - m) (total (record_lengths t))
  chain = no-shorter t good (t.room - m) (total (record_lengths t)) (omega arith) (omega (arith, long))

  pub link-exactly : OnlyRoom (decided t ram output (link m name)).answer (LinkFits t m)
  link-exactly =
      let rule = room-layout t good (t.room - m) small (record_lengths t) chain in
      left_as (link_left t ram output m name s p) (
        (λ h. let both = rule.0 (rw long h.1) in record { least = h.0; clear = both.1; layout = both.0 }),
        λ l. (l.least, rw (← long) (rule.1 (l.layout, l.clear))),
      )

  -- with a channel open, the layout alone says that the m bytes are no part of the user's
  pub link-exactly-open : 1 ≤ t.opened
      → OnlyRoom (decided t ram output (link m name)).answer ((256 + m ≤ t.room) × Layout (record_lengths t) (Outside t (t.room - m) (offered t)))
  link-exactly-open some =
      let first : (1 ≤ length (record_lengths t)) × (1 ≤ at (record_lengths t) 0) = first-record t.channels t.opened some (omega (arith, good.sized.channels)) in
      left_as link-exactly (
        (λ h. (h.least, h.layout)),
        λ h. record { least = h.0; clear = layout-clear t good (t.room - m) small (record_lengths t) chain first.0 first.1 h.1; layout = h.1 },
      )

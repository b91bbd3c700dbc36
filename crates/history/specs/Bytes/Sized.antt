-- The size of an open channel's buffer is the one that it was last opened with.
use Rattle.std.specs.Prelude.{◌≡◌, cond, ℕ, ◌-◌, ◌<◌, eqb, get_or}
use Rattle.std.proofs.Common.{sym, ap, ◌∙◌, not-suc-le-zero, arith, eq-eqb, ne_eqb}
use mathlib.Core.List.{[]}
use Rattle.std.proofs.Math.Decide.{dec_lt}
use Rattle.rows.specs.Definition.Channels.{zero_channel}
use Rattle.rows.specs.Laws.ChannelRows.{from, from-most}
use Rattle.rows.specs.declared.Channel.{Channel}
use Rattle.kernel.specs.Definition.Tables.{row_of, channel_at}
use Rattle.kernel.specs.Definition.Good.{Good}
use Rattle.kernel.specs.Definition.Line.{size_at, opening, closing}
use Rattle.kernel.specs.Definition.Segments.{granting, sharing_last, bounding}
use Rattle.kernel.specs.Definition.Devices.{linking, device_named}
use Rattle.kernel.specs.Definition.Reset.{releasing, resetting}
use Rattle.kernel.specs.Definition.Answers.{Decision}
use Rattle.kernel.specs.Definition.Calls.{Call}
use Rattle.kernel.specs.Laws.Changes.{Opened, opening-opens, opens_row, opens-old, Closed, closing-closes, closes-row, Linked, linking-links}
use Rattle.kernel.specs.Laws.Effects.{Effect, resets, opens, closes, reads, writes, names, counts, links, tells, bounds, grants, shares, frees, stores, loads, loads-module}
use Rattle.kernel.specs.declared.Tables.{Tables}
use Rattle.history.specs.Bytes.Words.{resized}
use Rattle.history.specs.Bytes.Buffers.{channel_in, free-by, reset_by}

-- the size of every open channel's buffer is what f gives for the channel's number
abbrev pub Sized : (ℕ → ℕ) → Tables → Type 0
Sized f t = (i : ℕ) → i < t.opened → size_at t i ≡ f (channel_in t i)

module _ (t : Tables) (g : Good t) (f : ℕ → ℕ) (sized : Sized f t) where
  open-sized : (u : Tables) (c : Channel) → Good u → Opened t u c → t.opened < 32 → Sized (λ d. cond (eqb c.number d) c.n (f d)) u
  open-sized u c s o few i a =
      let new : get_or u.channels t.opened zero_channel ≡ c = opens_row g o few in
      let last : channel_in u t.opened ≡ c.number = ap (λ (x : Channel). x.number) new in
      elim (dec_lt i t.opened) [
        | yes h ↦
            let old : get_or u.channels i zero_channel ≡ get_or t.channels i zero_channel = opens-old o i h in
            let number : channel_in u i ≡ channel_in t i = ap (λ (x : Channel). x.number) old in
            let apart : c.number ≡ channel_in t i → ⊥ = λ e. s.channels.differ i t.opened h (omega (arith, o.opened)) (number ∙ sym e ∙ sym last) in
            rw (number, ne_eqb c.number (channel_in t i) apart) (ap (λ (x : Channel). x.n) old ∙ sized i h)
        | no h ↦
            let q : i ≡ t.opened = omega (arith, o.opened) in
            rw (q, eq-eqb c.number (channel_in u t.opened) (sym last)) (ap (λ (x : Channel). x.n) new)
      ]

  close-sized : (u : Tables) (j : ℕ) → Closed t u j → j < t.opened → Sized f u
  close-sized u j o h i a =
      let row : get_or u.channels i zero_channel ≡ get_or t.channels (from j i) zero_channel = closes-row g o h i a in
      let less : i < t.opened - 1 = rw o.opened at a in
      ap (λ (x : Channel). x.n) row
      ∙ sized (from j i) (omega (arith, from-most j i))
      ∙ sym (ap (λ (x : Channel). f x.number) row)

  link-sized : (u : Tables) (m : ℕ) → Linked t u m → Sized f u
  link-sized u m o i a = rw o.channels (sized i (rw o.opened at a))

  reset-sized : (flags : ℕ) → Sized f (resetting t flags)
  unfolding releasing
  reset-sized flags = reset_by t [] (λ u ram. Sized f u) (λ u ram e i a. absurd (not-suc-le-zero (rw e at a))) sized sized flags

-- every done call makes of every open channel's size what `resized` says
pub done-sized : {t : Tables} {c : Call} {d : Decision} (f : ℕ → ℕ) → Good t → Good d.tables → Sized f t → Effect t c d
    → Sized (λ channel. resized c channel (f channel)) d.tables
unfolding resized granting sharing_last bounding
done-sized {t} f g s sized (resets {flags}) = reset-sized t g f sized flags
done-sized {t} f g s sized (opens c e m low new device few fits) =
    rw (← e, ← m) (open-sized t g f sized (opening t c) c s (opening-opens t c) few)
done-sized {t} f g s sized (closes {channel} h) = close-sized t g f sized (closing t (channel_at t channel)) (channel_at t channel) (closing-closes t _) h
done-sized f g s sized (reads h) = sized
done-sized f g s sized (writes h l) = sized
done-sized f g s sized (names h) = sized
done-sized f g s sized counts = sized
done-sized {t} f g s sized (links {m} {name} w few h fits) = link-sized t g f sized (linking t m (device_named name)) m (linking-links t m (device_named name))
done-sized f g s sized tells = sized
done-sized f g s sized (bounds a h) = sized
done-sized f g s sized (grants h) = sized
done-sized f g s sized (shares a) = sized
done-sized {t} f g s sized (frees {caller} {segment} h o) = free-by t (row_of t segment) (Sized f) (λ classes user. sized)
done-sized f g s sized (stores m h) = sized
done-sized f g s sized (loads m h) = sized
done-sized f g s sized (loads-module b m h) = sized

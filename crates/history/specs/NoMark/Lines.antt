-- Two RAMs under the same tables that are alike along the line: a done call leaves them so, and settles every other index or leaves it.
use Rattle.std.specs.Prelude.{◌≡◌, ℕ, suc, ◌+◌, ◌-◌, ◌<◌, get_or}
use Rattle.std.proofs.Math.Path.{refl}
use Rattle.std.proofs.Common.{ap, ◌∙◌, not-suc-le-zero, arith}
use mathlib.Core.List.{List, [], ◌++◌}
use Rattle.std.proofs.Math.Decide.{dec_lt}
use Rattle.std.proofs.Math.ListN.{length, replicate, length-append, length-replicate}
use Rattle.rows.specs.Definition.Lists.{at}
use Rattle.rows.specs.declared.Channel.{Channel}
use Rattle.line.specs.Definition.Line.{place_of, line_from, put_line, heading_of, after_open, after_close, after_link}
use Rattle.line.specs.Laws.Walks.{length-bytes, bytes-agree}
use Rattle.line.specs.Laws.Makes.{length-heading}
use Rattle.modules.specs.Definition.Judging.{puts_in}
use Rattle.modules.specs.Laws.Stored.{stored-below}
use Rattle.kernel.specs.Definition.Tables.{row_of, channel_at}
use Rattle.kernel.specs.Definition.Line.{total_of, record_at, size_at, opening, closing}
use Rattle.kernel.specs.Definition.Segments.{granting, sharing_last, bounding}
use Rattle.kernel.specs.Definition.Devices.{linking, device_named}
use Rattle.kernel.specs.Definition.Reset.{releasing}
use Rattle.kernel.specs.Definition.Answers.{Decision}
use Rattle.kernel.specs.Definition.Calls.{Call}
use Rattle.kernel.specs.Definition.Bytes.{ram_opened, ram_closed, ram_after}
use Rattle.kernel.specs.Laws.Changes.{opening-opens, opens-total, closing-closes, Linked, linking-links}
use Rattle.kernel.specs.Laws.Effects.{Effect, resets, opens, closes, reads, writes, names, counts, links, tells, bounds, grants, shares, frees, stores, loads, loads-module}
use Rattle.kernel.specs.Laws.KeptLine.{closing-keeps}
use Rattle.kernel.specs.Laws.Ready.{Ready}
use Rattle.kernel.specs.Laws.Records.{record-within}
use Rattle.kernel.specs.declared.Tables.{Tables}
use Rattle.history.specs.Bytes.Buffers.{closes-starts, free-by, reset_by}
use Rattle.history.specs.Bytes.Places.{grown-place, closed-place}
use Rattle.history.specs.Bytes.Steps.{store-fits}
use Rattle.history.specs.NoMark.Settled.{put-sizes, left, settled_on, settled_same, SettledAt, put-settles, put-there, store-settles, each_settles, reset-settles}

-- they have the same byte on every position of the line
abbrev pub OnLine : Tables → (a b : List ℕ) → Type 0
OnLine t a b = (p : ℕ) → p < total_of t → get_or a (place_of t.chain t.room p) 0 ≡ get_or b (place_of t.chain t.room p) 0

-- the line of u is a part of that of t, and lies where it lay
abbrev Stays : (t u : Tables) → Type 0
Stays t u = (p : ℕ) → p < total_of u → (p < total_of t) × (place_of u.chain u.room p ≡ place_of t.chain t.room p)

stays : (t : Tables) → Stays t t
stays t p h = (h, refl)

none_open : (t u : Tables) → u.opened ≡ 0 → Stays t u
none_open t u e p h = absurd (not-suc-le-zero (rw e at h))

module _ (t : Tables) (a b : List ℕ) (r : Ready t (length b)) (l : length a ≡ length b) (line : OnLine t a b) where
  -- what is read off the line is the same
  pub lines_same : (p n : ℕ) → ((k : ℕ) → k < n → p + k < total_of t) → line_from t.chain t.room a p n ≡ line_from t.chain t.room b p n
  lines_same p n on = bytes-agree (place_of t.chain t.room) (place_of t.chain t.room) a b p p n (λ k h. line (p + k) (on k h))

  -- close moves the records behind the one that goes
  close-settles : (j : ℕ) → j < t.opened → (i : ℕ) → SettledAt i a b (ram_closed t a j) (ram_closed t b j)
  unfolding after_close
  close-settles j h i =
      let gap = 16 + size_at t j in
      let within = record-within t j r.good h in
      rw (lines_same (record_at t j + gap) (total_of t - gap - record_at t j) (λ k q. omega arith))
      (put-settles i (place_of t.chain t.room) _ a b (record_at t j) l)

  close-stays : (j : ℕ) → j < t.opened → Stays t (closing t j)
  close-stays j h p q =
      let u = closing t j in
      let o = closing-closes t j in
      let all : suc (t.opened - 1) ≡ t.opened = omega arith in
      let less : record_at u (t.opened - 1) + (16 + size_at t j) ≡ total_of t = closes-starts r.good o (t.opened - 1) (omega arith) (omega arith) ∙ ap (record_at t) all in
      let total : total_of u ≡ record_at u (t.opened - 1) = ap (record_at u) o.opened in
      (omega arith, closed-place t u j o (closing-keeps t j r.good h) p q)

  -- what lay on the line lies there still where the chain grew
  old-place : (u : Tables) → ((i : ℕ) → i < t.held → at u.chain i ≡ at t.chain i) → (p : ℕ) → p < total_of t
      → get_or a (place_of u.chain t.room p) 0 ≡ get_or b (place_of u.chain t.room p) 0
  old-place u same p h = rw (grown-place t u r.good same p h) (line p h)

  -- open puts a record behind the line
  open-line : (c : Channel) → t.opened < 32 → OnLine (opening t c) (ram_opened t (opening t c) a c) (ram_opened t (opening t c) b c)
  unfolding after_open
  open-line c few p h =
      let u = opening t c in
      let o = opening-opens t c in
      let walk = place_of u.chain t.room in
      let heading = heading_of (16 + c.n) c.number c.device c.unit in
      let xs = heading ++ replicate c.n 0 in
      let n : length xs ≡ 16 + c.n =
      omega (arith, length-append heading (replicate c.n 0), length-heading (16 + c.n) c.number c.device c.unit, length-replicate {A = ℕ} c.n 0) in
      rw o.room
      (elim (dec_lt p (total_of t)) [
        | yes q ↦ settled_same (put-settles (walk p) walk xs a b (total_of t) l) (old-place u o.chain p q)
        | no q ↦ put-there (walk p) walk xs a b (total_of t) (p - total_of t) l (omega (arith, opens-total r.good o few)) (ap walk (omega arith))
      ])

  -- link moves all of it
  module _ (u : Tables) (m : ℕ) (o : Linked t u m) where
    moved_same : line_from u.chain t.room a 0 (total_of t) ≡ line_from u.chain t.room b 0 (total_of t)
    moved_same = bytes-agree (place_of u.chain t.room) (place_of u.chain t.room) a b 0 0 (total_of t) (λ k q. old-place u o.chain (0 + k) (omega arith))

    -- the line moved, and the zeros put behind it
    abbrev moved : List ℕ → List ℕ
    moved ram = put_line u.chain (t.room - m) ram 0 (line_from u.chain t.room b 0 (total_of t))

    zeros-settle : (i : ℕ) → SettledAt i (moved a) (moved b) (after_link u.chain t.room m a (total_of t)) (after_link u.chain t.room m b (total_of t))
    unfolding after_link
    zeros-settle i =
        rw moved_same (put-settles i (place_of u.chain t.room) (replicate m 0) (moved a) (moved b) 0 (put-sizes (place_of u.chain (t.room - m)) _ a b 0 l))

    link-settles : (i : ℕ) → SettledAt i a b (after_link u.chain t.room m a (total_of t)) (after_link u.chain t.room m b (total_of t))
    link-settles i =
        settled_on (put-settles i (place_of u.chain (t.room - m)) _ a b 0 l) (zeros-settle i)

    link-line : OnLine u (after_link u.chain t.room m a (total_of t)) (after_link u.chain t.room m b (total_of t))
    link-line p h =
        let walk = place_of u.chain (t.room - m) in
        let total : total_of u ≡ total_of t = rw (o.opened, o.channels) in
        let n = length-bytes (place_of u.chain t.room) b 0 (total_of t) in
        rw o.room
        (settled_same (zeros-settle (walk p)) (put-there (walk p) walk _ a b 0 p l (omega arith) (ap walk (omega arith))))

  -- every done call
  pub done-settles : {c : Call} {d : Decision} → Effect t c d → (i : ℕ) → SettledAt i a b (ram_after t d.tables a d.ram) (ram_after t d.tables b d.ram)
  unfolding ram_after after_open
  done-settles (resets {flags}) i = reset-settles i t a b l flags
  done-settles (opens c number asked low new device few fits) i = put-settles i (place_of (opening t c).chain t.room) _ a b (total_of t) l
  done-settles (closes h) i = close-settles _ h i
  done-settles (reads h) i = left refl refl
  done-settles (writes {bytes = bytes} h w) i = put-settles i (place_of t.chain t.room) bytes a b _ l
  done-settles (names h) i = left refl refl
  done-settles counts i = left refl refl
  done-settles (links {m} {name} w few h fits) i = link-settles (linking t m (device_named name)) m (linking-links t m (device_named name)) i
  done-settles tells i = left refl refl
  done-settles (bounds s h) i = left refl refl
  done-settles (grants h) i = left refl refl
  done-settles (shares s) i = left refl refl
  done-settles (frees h o) i = left refl refl
  done-settles (stores {segment} {offset} {bytes} m h) i = store-settles i a b _ bytes (store-fits t b (row_of t segment) offset (length bytes) r m h) l
  done-settles (loads m h) i = left refl refl
  done-settles (loads-module {segment} {page} {offset} {stream} n m h) i =
      each_settles i t (row_of t segment) m a b (puts_in page offset stream) r l (stored-below _ _ _ h)

  kept_line : {c : Call} {d : Decision} → Effect t c d → Stays t d.tables → OnLine d.tables (ram_after t d.tables a d.ram) (ram_after t d.tables b d.ram)
  kept_line m s p h = rw (s p h).1 (settled_same (done-settles m (place_of t.chain t.room p)) (line p (s p h).0))

  pub done-line : {c : Call} {d : Decision} → Effect t c d → OnLine d.tables (ram_after t d.tables a d.ram) (ram_after t d.tables b d.ram)
  unfolding ram_after granting sharing_last bounding releasing
  done-line (resets {flags}) =
      kept_line (resets {flags = flags}) (reset_by t [] (λ u ram. Stays t u) (λ u ram e. none_open t u e) (stays t) (stays t) flags)
  done-line (opens c number asked low new device few fits) = open-line c few
  done-line (closes {channel} h) = kept_line (closes h) (close-stays (channel_at t channel) h)
  done-line (reads h) = line
  done-line (writes h w) = kept_line (writes h w) (stays t)
  done-line (names h) = line
  done-line counts = line
  done-line (links {m} {name} w few h fits) = link-line (linking t m (device_named name)) m (linking-links t m (device_named name))
  done-line tells = line
  done-line (bounds s h) = line
  done-line (grants h) = line
  done-line (shares s) = line
  done-line (frees {caller} {segment} h o) = free-by t (row_of t segment) (λ u. OnLine u a b) (λ classes user. line)
  done-line (stores m h) = kept_line (stores m h) (stays t)
  done-line (loads m h) = line
  done-line (loads-module n m h) = kept_line (loads-module n m h) (stays t)

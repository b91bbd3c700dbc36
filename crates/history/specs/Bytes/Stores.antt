-- What each done call makes of a byte whose place is the user's before and after it.
use Rattle.std.specs.Prelude.{◌≡◌, refl, Bool, true, false, cond, ◌||◌, List, [], ◌∷◌, ◌++◌, ℕ, ◌+◌, ◌-◌, ◌≤◌, ◌<◌, eqb, ltb, get_or}
use Rattle.std.proofs.Common.{sym, ◌∙◌, arith, eq-eqb, ne_eqb, ltb-true}
use Rattle.std.proofs.Math.Path.{ap}
use Rattle.std.proofs.Math.Decide.{ℕ_discrete}
use Rattle.std.proofs.Math.ListN.{length, replicate, length-append, length-replicate}
use Rattle.rows.specs.Definition.Lists.{at}
use Rattle.rows.specs.Laws.Lists.{and_left}
use Rattle.rows.specs.declared.Channel.{Channel}
use Rattle.line.specs.Definition.Line.{place_of, put_line, heading_of, after_open, after_link}
use Rattle.line.specs.Definition.Ram.{put_at}
use Rattle.line.specs.Laws.Walks.{put-elsewhere}
use Rattle.line.specs.Laws.Makes.{length-heading}
use Rattle.line.specs.Laws.Places.{place-low}
use Rattle.line.specs.Laws.PointsClosed.{closed-points}
use Rattle.line.specs.Laws.PointsLinked.{linked-points}
use Rattle.modules.specs.Definition.Counter.{Put, put_each}
use Rattle.modules.specs.Laws.Stored.{Below, stored-below}
use Rattle.modules.specs.Definition.Judging.{puts_in}
use Rattle.kernel.specs.Definition.Tables.{row_of, channel_at}
use Rattle.kernel.specs.Definition.Line.{total_of, record_at, size_at, buffer_at, opening}
use Rattle.kernel.specs.Definition.Segments.{may_reach, reach_of}
use Rattle.kernel.specs.Definition.Devices.{device_named}
use Rattle.kernel.specs.Definition.Reset.{bit4, bit5}
use Rattle.kernel.specs.Definition.Good.{Good}
use Rattle.kernel.specs.Definition.Answers.{Decision}
use Rattle.kernel.specs.Definition.Calls.{Call}
use Rattle.kernel.specs.Definition.Bytes.{ram_opened, ram_closed, segment_at, ram_after}
use Rattle.kernel.specs.Laws.Chains.{good-chain}
use Rattle.kernel.specs.Laws.Effects.{Effect, resets, opens, closes, reads, writes, names, counts, links, tells, bounds, grants, shares, frees, stores, loads, loads-module}
use Rattle.kernel.specs.Laws.Changes.{Opened, opens-total, opening-opens, Linked, linking-links}
use Rattle.kernel.specs.Laws.Facts.{reach-small}
use Rattle.kernel.specs.Laws.Records.{record-within}
use Rattle.kernel.specs.Laws.Ready.{Ready}
use Rattle.kernel.specs.declared.Tables.{Tables}
use Rattle.history.specs.Bytes.Words.{stored}
use Rattle.history.specs.Definition.Users.{Users}
use Rattle.history.specs.Answers.Found.{in_list}
use Rattle.history.specs.Bytes.Places.{linked-chain, off-line, off-room, users-small}
use Rattle.history.specs.Bytes.Patched.{patched, patched_in, patched-not, patched-by, put-at-is}
use Rattle.history.specs.Bytes.Each.{patched_each}
use Rattle.history.specs.Bytes.Steps.{store-fits, byte-ready}

-- the offset taken with the segment's start or without
patched-shift : (start offset : ℕ) (bytes : List ℕ) (k old : ℕ) → patched (start + offset) bytes (start + k) old ≡ patched offset bytes k old
patched-shift start offset bytes k old =
    patched-by offset bytes k old (patched (start + offset) bytes (start + k) old)
    (λ a b.
    let e : start + k - (start + offset) ≡ k - offset = omega arith in
    patched_in (start + offset) bytes (start + k) old (omega arith) (omega arith) ∙ ap (λ (x : ℕ). get_or bytes x 0) e)
    (λ out. patched-not (start + offset) bytes (start + k) old (λ a b. out (omega arith) (omega arith)))

-- two segments that are listed are in two rows
one-segment : (t : Tables) → Good t → (a b : ℕ) → row_of t a ≡ row_of t b → row_of t a < t.segments → a ≡ b
one-segment t g a b e h = sym (in_list t g a h).number ∙ ap (at t.list) e ∙ (in_list t g b (rw e at h)).number

-- t the tables before the call, u those after it
module _ (t u : Tables) (ram : List ℕ) (r : Ready t (length ram)) (s : Ready u (length ram)) (row offset : ℕ) (before : Users t row offset) (later : Users u row offset) where
  -- the place, and its byte as it was
  abbrev x : ℕ
  x = segment_at row + offset

  abbrev old : ℕ
  old = get_or ram x 0

  write-user : (p : ℕ) (bytes : List ℕ) → p + length bytes ≤ total_of t → get_or (put_line t.chain t.room ram p bytes) x 0 ≡ old
  write-user p bytes h = put-elsewhere (place_of t.chain t.room) bytes ram p x (λ k l e. off-line t r.good row offset before (p + k) (omega arith) e)

  open-user : (c : Channel) → Opened t u c → t.opened < 32 → get_or (ram_opened t u ram c) x 0 ≡ old
  unfolding after_open
  open-user c o few =
      let heading = heading_of (16 + c.n) c.number c.device c.unit in
      let total = opens-total r.good o few in
      let n : length (heading ++ replicate c.n 0) ≡ 16 + c.n =
      omega (arith, length-append heading (replicate c.n 0), length-heading (16 + c.n) c.number c.device c.unit, length-replicate {A = ℕ} c.n 0) in
      put-elsewhere (place_of u.chain t.room) (heading ++ replicate c.n 0) ram (total_of t) x
      (λ k l e. off-line u s.good row offset later (total_of t + k) (omega arith) (e ∙ ap (λ (y : ℕ). place_of u.chain y (total_of t + k)) (sym o.room)))

  close-user : (j : ℕ) → j < t.opened → get_or (ram_closed t ram j) x 0 ≡ old
  close-user j h =
      (closed-points t.chain t.room ram (record_at t j) (16 + size_at t j) (total_of t) (good-chain t (length ram) r.good r.size) (record-within t j r.good h)).kept x
      (λ p _ l e. off-line t r.good row offset before p l e)

  link-user : (m : ℕ) → Linked t u m → m ≤ t.room → get_or (after_link u.chain t.room m ram (total_of t)) x 0 ≡ old
  link-user m o h =
      let total : total_of u ≡ total_of t = rw (o.opened, o.channels) in
      let chain = linked-chain t u m (length ram) o r.good h s in
      (linked-points u.chain t.room m ram (total_of t) chain h).kept x
      (λ p l e. off-line u s.good row offset later p (omega arith) (e ∙ ap (λ (y : ℕ). place_of u.chain y p) (sym o.room)))
      (λ p l k e. off-room u s.good row offset later p (omega (arith, o.room)) (omega arith) e)

  -- "closes all channels", and "restores the cold R, the RAM gained becoming zero"
  empty-user : get_or (put_line t.chain t.room ram 0 (replicate (total_of t) 0)) x 0 ≡ old
  empty-user = write-user 0 (replicate (total_of t) 0) (omega (arith, length-replicate {A = ℕ} (total_of t) 0))

  gain-user : (emptied : List ℕ) → get_or (put_line t.chain t.cold emptied 0 (replicate (t.cold - t.room) 0)) x 0 ≡ get_or emptied x 0
  gain-user emptied =
      let n = length-replicate {A = ℕ} (t.cold - t.room) 0 in
      let top = r.good.room.top in
      put-elsewhere (place_of t.chain t.cold) (replicate (t.cold - t.room) 0) emptied 0 x
      (λ k l e. off-room t r.good row offset before (t.cold - 1 - (0 + k)) (omega arith) (omega arith) (e ∙ place-low t.chain t.cold (0 + k) (omega arith)))

  flags-user : (four five : Bool)
      → get_or (let emptied = cond (four || five) (put_line t.chain t.room ram 0 (replicate (total_of t) 0)) ram in
      cond five (put_line t.chain t.cold emptied 0 (replicate (t.cold - t.room) 0)) emptied) x 0 ≡ old
  flags-user true true = gain-user _ ∙ empty-user
  flags-user true false = empty-user
  flags-user false true = gain-user _ ∙ empty-user
  flags-user false false = refl

-- a store puts its bytes there, or elsewhere
store-user : (t : Tables) (ram : List ℕ) → Ready t (length ram) → (a segment o offset : ℕ) (bytes : List ℕ)
    → Users t (row_of t segment) offset → may_reach t (row_of t a) ≡ true → o + length bytes ≤ reach_of t (row_of t a)
    → get_or (put_at ram (segment_at (row_of t a) + o) bytes) (segment_at (row_of t segment) + offset) 0
    ≡ cond (eqb a segment) (patched o bytes offset (get_or ram (segment_at (row_of t segment) + offset) 0)) (get_or ram (segment_at (row_of t segment) + offset) 0)
store-user t ram r a segment o offset bytes user m h =
    let y = segment_at (row_of t a) + o in
    let x = segment_at (row_of t segment) + offset in
    let fits : y + length bytes ≤ length ram = store-fits t ram (row_of t a) o (length bytes) r m h in
    put-at-is ram y bytes x fits
    ∙ elim (ℕ_discrete a segment) [
      | yes q ↦ rw (eq-eqb a segment q) (rw q (patched-shift (segment_at (row_of t segment)) o bytes offset (get_or ram x 0)))
      | no q ↦
          let known : row_of t a < t.segments = ltb-true _ _ (and_left (ltb (row_of t a) t.segments) _ m) in
          let apart : row_of t a ≡ row_of t segment → ⊥ = λ e. q (one-segment t r.good a segment e known) in
          let small = users-small t r.good (row_of t segment) offset user in
          let reach = reach-small t r.good (row_of t a) in
          rw (ne_eqb a segment q) (patched-not y bytes x (get_or ram x 0) (λ low high. apart (omega arith)))
    ]

-- one byte put there or elsewhere, and then the others
byte-then : (b : Bool) (puts : List Put) (k here new old : ℕ) → here ≡ cond b new old
    → cond b (patched_each puts k here) here ≡ cond b (patched_each puts k new) old
byte-then true puts k here new _ e = ap (patched_each puts k) e
byte-then false puts k here new _ e = e

-- a load of a module puts its bytes there one by one, or elsewhere
load-user : (t : Tables) (ram : List ℕ) → Ready t (length ram) → (a segment offset : ℕ) (puts : List Put)
    → Users t (row_of t segment) offset → may_reach t (row_of t a) ≡ true → Below (reach_of t (row_of t a)) puts
    → get_or (put_each (segment_at (row_of t a)) ram puts) (segment_at (row_of t segment) + offset) 0
    ≡ cond (eqb a segment) (patched_each puts offset (get_or ram (segment_at (row_of t segment) + offset) 0)) (get_or ram (segment_at (row_of t segment) + offset) 0)
unfolding patched_each
load-user t ram r a segment offset [] user m h = same (eqb a segment) _
  where
    same : (b : Bool) (x : ℕ) → x ≡ cond b x x
    same true x = refl
    same false x = refl
load-user t ram r a segment offset (p ∷ puts) user m (l, h) =
    load-user t (put_at ram (segment_at (row_of t a) + p.offset) (p.byte ∷ [])) (byte-ready t (row_of t a) m ram p r l) a segment offset puts user m h
    ∙ byte-then (eqb a segment) puts offset _ _ _ (store-user t ram r a segment p.offset offset (p.byte ∷ []) user m (omega arith))

-- every done call makes of the byte what `stored` says
pub done-user : {t : Tables} {c : Call} {d : Decision} (ram : List ℕ) → Ready t (length ram) → Ready d.tables (length ram) → (segment offset : ℕ)
    → Users t (row_of t segment) offset → Users d.tables (row_of t segment) offset → Effect t c d
    → get_or (ram_after t d.tables ram d.ram) (segment_at (row_of t segment) + offset) 0 ≡ stored c segment offset (get_or ram (segment_at (row_of t segment) + offset) 0)
unfolding ram_after stored
done-user {t} ram r s segment offset b l (resets {flags}) = flags-user t _ ram r s (row_of t segment) offset b l (bit4 flags) (bit5 flags)
done-user {t} ram r s segment offset b l (opens c e m low new device few fits) = open-user t (opening t c) ram r s (row_of t segment) offset b l c (opening-opens t c) few
done-user {t} ram r s segment offset b l (closes {channel} h) = close-user t _ ram r s (row_of t segment) offset b l (channel_at t channel) h
done-user ram r s segment offset b l (reads h) = refl
done-user {t} ram r s segment offset b l (writes {channel} {offset = o} {bytes} h k) =
    write-user t t ram r s (row_of t segment) offset b l (buffer_at t (channel_at t channel) + o) bytes (omega (arith, record-within t (channel_at t channel) r.good h))
done-user ram r s segment offset b l (names h) = refl
done-user ram r s segment offset b l counts = refl
done-user {t} ram r s segment offset b l (links {m} {name} w few h fits) =
    link-user t _ ram r s (row_of t segment) offset b l m (linking-links t m (device_named name)) (omega arith)
done-user ram r s segment offset b l tells = refl
done-user ram r s segment offset b l (bounds a h) = refl
done-user ram r s segment offset b l (grants h) = refl
done-user ram r s segment offset b l (shares a) = refl
done-user ram r s segment offset b l (frees h o) = refl
done-user {t} ram r s segment offset b l (stores {segment = a} {offset = o} {bytes} m h) = store-user t ram r a segment o offset bytes b m h
done-user ram r s segment offset b l (loads m h) = refl
done-user {t} ram r s segment offset b l (loads-module {segment = a} {page} {offset = o} {stream} _ m h) = load-user t ram r a segment offset (puts_in page o stream) b m (stored-below _ _ _ h)

-- "a done open followed at once by that channel's close gives back the same tables and every RAM byte outside that record's positions; those are zero"
use Rattle.std.specs.Prelude.{◌≡◌, refl, true, List, ℕ, ◌+◌, ◌-◌, ◌<◌, length, get_or}
use Rattle.std.proofs.Common.{sym, ap, subst, ◌∙◌, arith}
use Rattle.std.proofs.lemmas.Bool.{false≢true, lt-leb}
use Rattle.rows.specs.Definition.Lists.{at}
use Rattle.rows.specs.declared.Channel.{Channel}
use Rattle.line.specs.Within.Chains.{Chain}
use Rattle.line.specs.Definition.Line.{chain_index_of, offset_of, place_of}
use Rattle.line.specs.Laws.Moves.{length-close}
use Rattle.line.specs.Laws.Places.{place-apart}
use Rattle.line.specs.Laws.Points as points
use Rattle.line.specs.Laws.PointsOpened.{opened-points}
use Rattle.line.specs.Laws.PointsClosed.{closed-points}
use Rattle.kernel.specs.Definition.Tables.{channel_at}
use Rattle.kernel.specs.Definition.Line.{record_at, total_of, size_at, room_for, opening, closing}
use Rattle.kernel.specs.Definition.Answers.{granted, Decision}
use Rattle.kernel.specs.Definition.Calls.{«open», close, on_close}
use Rattle.kernel.specs.Definition.Bytes.{ram_opened, ram_closed, moves_closed, segment_at, ram_after, output_after, moves_of}
use Rattle.kernel.specs.Definition.Step.{Result, result_of, heard, decided, completed, step}
use Rattle.kernel.specs.Laws.Changes.{Opened, opening-opens, opens_row, opens-total}
use Rattle.kernel.specs.Laws.Effects.{Effect, opens}
use Rattle.kernel.specs.Laws.Ready.{Ready, ready-test}
use Rattle.kernel.specs.declared.Tables.{Tables}
use Rattle.kernel.specs.declared.Answer.TheVariants.{Done}
use Rattle.history.specs.Definition.Runs.{State, after, event}
use Rattle.history.specs.Definition.NoMark.{InRecord, NoMark, LeavesNoMark}
use Rattle.history.specs.Definition.Layout.{Place}
use Rattle.history.specs.Definition.Places.{offered, Outside}
use Rattle.history.specs.Answers.Found.{open-one}
use Rattle.history.specs.Bytes.Buffers.{opens-starts, opens-chain}
use Rattle.history.specs.Bytes.Places.{grown-place}
use Rattle.history.specs.Bytes.Steps.{Sound, done-length, Stepped, refused, done, stepped, step-sound}
use Rattle.history.specs.NoMark.Tables.{open-close}
use Rattle.history.specs.NoMark.Spare.{opened-outside}

-- a close of a channel that is open
close-is : (s : State) → Sound s → (channel row : ℕ) → channel_at s.tables channel ≡ row → row < s.tables.opened → (output : List ℕ)
    → step s.tables s.ram (close channel) output ≡ result_of (record { answer = Done 0 0; tables = closing s.tables row; moved = length (moves_closed s.tables row) }) (ram_closed s.tables s.ram row) output
unfolding step decided heard completed on_close ram_after output_after moves_of
close-is s r channel row here known output = rw (ready-test r, here, lt-leb s.tables.opened row known)

module _ (t : Tables) (ram : List ℕ) (r : Ready t (length ram)) (c : Channel) (few : t.opened < 32) (fits : room_for t t.room (total_of t + (16 + c.n)) ≡ true)
    (s : Ready (opening t c) (length ram)) where
  -- the tables and the RAM after the open
  abbrev u : Tables
  u = opening t c

  abbrev held : List ℕ
  held = ram_opened t u ram c

  o : Opened t u c
  o = opening-opens t c

  -- its record is the last, from T on
  last : channel_at u c.number ≡ t.opened
  last =
      open-one u s.good c.number t.opened
      (record { row = omega (arith, o.opened); number = ap (λ (x : Channel). x.number) (opens_row r.good o few) })

  first : record_at u t.opened ≡ total_of t
  first = opens-starts o t.opened (omega arith)

  buffer : size_at u t.opened ≡ c.n
  buffer = ap (λ (x : Channel). x.n) (opens_row r.good o few)

  chain : Chain u.chain t.room (total_of t + 16 + c.n) (length ram)
  chain = opens-chain r o few s

  opened : points.Opened u.chain t.room ram (total_of t) c.number c.device c.unit c.n held
  opened = opened-points u.chain t.room ram (total_of t) c.number c.device c.unit c.n chain

  closed : points.Closed u.chain t.room held (total_of t) (16 + c.n) (total_of t + 16 + c.n) (ram_closed u held t.opened)
  closed =
      rw (o.room, first, buffer, opens-total r.good o few)
      (closed-points u.chain t.room held (total_of t) (16 + c.n) (total_of t + 16 + c.n) (rw opened.size chain) (omega arith))

  -- its positions
  put_in : (i k : ℕ) → k < 16 + c.n → i ≡ place_of u.chain t.room (total_of t + k) → InRecord u c.number i
  put_in i k h e = record { k = k; within = rw (last, buffer) h; place = rw (last, first, o.room) e }

  short : (i : ℕ) (in-it : InRecord u c.number i) → in-it.k < 16 + c.n
  short i in-it = rw (last, buffer) at in-it.within

  place : (i : ℕ) (in-it : InRecord u c.number i) → i ≡ place_of u.chain t.room (total_of t + in-it.k)
  place i in-it = rw (last, first, o.room) at in-it.place

  kept-bytes : (i : ℕ) → ¬ InRecord u c.number i → get_or (ram_closed u held t.opened) i 0 ≡ get_or ram i 0
  kept-bytes i off =
      closed.kept i (λ p a b e. off (put_in i (p - total_of t) (omega arith) (e ∙ ap (place_of u.chain t.room) (omega arith))))
      ∙ opened.kept i (λ k h e. off (put_in i k h e))

  zero-bytes : (i : ℕ) → InRecord u c.number i → get_or (ram_closed u held t.opened) i 0 ≡ 0
  zero-bytes i in-it =
      let l = short i in-it in
      ap (λ (x : ℕ). get_or (ram_closed u held t.opened) x 0) (place i in-it) ∙ closed.zeroed (total_of t + in-it.k) (omega arith) (omega arith) (omega arith)

  offered-place : (i : ℕ) → InRecord u c.number i → (p : Place) × (i ≡ segment_at p.row + p.offset) × Outside t t.room (offered t) p
  unfolding place_of
  offered-place i in-it =
      let l = short i in-it in
      let q = total_of t + in-it.k in
      let p : Place = record { row = at u.chain (chain_index_of t.room q); offset = offset_of t.room q } in
      (p, omega (arith, place i in-it), opened-outside t c r.good fits s.good q (omega (arith, opens-total r.good o few)))

  off-old-line : (i : ℕ) → InRecord u c.number i → (p : ℕ) → p < total_of t → ¬ (i ≡ place_of t.chain t.room p)
  off-old-line i in-it p h e =
      let l = short i in-it in
      let there : i ≡ place_of u.chain t.room p = e ∙ sym (grown-place t u r.good o.chain p h) in
      let same : total_of t + in-it.k ≡ p =
      place-apart u.chain t.room (total_of t + 16 + c.n) (length ram) chain (total_of t + in-it.k) p (omega arith) (omega arith) (sym (place i in-it) ∙ there) in
      omega arith

  -- no record stands after the last one
  none-moved : length (moves_closed u t.opened) ≡ 0
  none-moved =
      omega (arith, length-close u.chain u.room (record_at u t.opened) (16 + size_at u t.opened) (total_of u), first, buffer, opens-total r.good o few)

  no-mark : (output₁ : List ℕ) → NoMark (record { tables = t; ram = ram }) (record { tables = u; ram = held }) c.number c.n output₁
  no-mark output₁ =
      let sound : Ready u (length held) = rw opened.size s in
      let is = rw none-moved at (close-is (record { tables = u; ram = held }) sound c.number t.opened last (omega (arith, o.opened)) output₁) in
      record {
        done = ap (λ (x : Result). record { call = close c.number; answer = x.answer; output = x.output; moved = x.moved }) is;
        tables = ap (λ (x : Result). x.tables) is ∙ open-close t c r.good few fits;
        size = ap (λ (x : Result). length x.ram) is ∙ closed.size ∙ opened.size;
        kept = λ i off. ap (λ (x : Result). get_or x.ram i 0) is ∙ kept-bytes i off;
        zero = λ i in-it. ap (λ (x : Result). get_or x.ram i 0) is ∙ zero-bytes i in-it;
        is_open = rw (last, o.opened) (omega arith);
        first = rw last first;
        buffer = rw last buffer;
        apart = off-old-line;
        whose = offered-place;
      }

-- what a done open leaves
opened-by : (s : State) {channel driver n : ℕ} {name : List ℕ} {d : Decision} → Sound s → Ready d.tables (length s.ram) → Effect s.tables («open» channel driver n name) d
    → (output₁ : List ℕ) → NoMark s (record { tables = d.tables; ram = ram_after s.tables d.tables s.ram d.ram }) channel n output₁
unfolding ram_after
opened-by s r there (opens c number size low new device few fits) output₁ = rw (← number, ← size) (no-mark s.tables s.ram r c few fits there output₁)

again : (s : State) (channel driver n : ℕ) (name output output₁ : List ℕ) → Sound s → granted (event s («open» channel driver n name) output).answer ≡ true
    → Stepped s («open» channel driver n name) output → NoMark s (after s («open» channel driver n name) output) channel n output₁
again s channel driver n name output output₁ r e (refused f q) = absurd (false≢true (sym f ∙ e))
again s channel driver n name output output₁ r e (done d f m p q) =
    let c = «open» channel driver n name in
    let there : Ready d.tables (length s.ram) = rw (p, q, done-length s.ram r m) at (step-sound s c output r refl) in
    let next : after s c output ≡ record { tables = d.tables; ram = ram_after s.tables d.tables s.ram d.ram } = rw (p, q) in
    subst (λ (x : State). NoMark s x channel n output₁) (sym next) (opened-by s r there m output₁)

-- Two steps: a done open, and at once the close, which is done.
pub leaves-no-mark : LeavesNoMark
leaves-no-mark s good size channel driver n name output output₁ e =
    again s channel driver n name output output₁ (record { good = good; size = size }) e (stepped s («open» channel driver n name) output refl)

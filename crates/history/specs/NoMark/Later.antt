-- "this leaves no mark", for what follows: two states alike but for bytes off the line stay so, and no call can tell them apart but by a load from there.
use Rattle.std.specs.Prelude.{◌≡◌, true, ◌⊎◌, ℕ, ◌+◌, ◌-◌, ◌≤◌, ◌<◌, take, drop, Option, Some, None}
use Rattle.std.proofs.Math.Path.{refl, sym, ap}
use Rattle.std.proofs.Common.{◌∙◌, arith, ext_get_or}
use mathlib.Core.List.{List, [], ◌∷◌}
use Rattle.std.proofs.Math.Logic.{inl, inr}
use Rattle.std.proofs.Math.Decide.{dec_lt}
use Rattle.std.proofs.Math.ListN.{length, get_or, length-append}
use Rattle.std.proofs.lemmas.List.{length-replicate}
use Rattle.line.specs.Definition.Line.{place_of}
use Rattle.line.specs.Definition.Ram.{filled}
use Rattle.line.specs.Definition.Given.{given_of}
use Rattle.line.specs.Laws.Given.{given_inside}
use Rattle.line.specs.Laws.OneRam.{one, none, find}
use Rattle.kernel.specs.Definition.Tables.{row_of, channel_at}
use Rattle.kernel.specs.Definition.Line.{record_at, size_at, buffer_at}
use Rattle.kernel.specs.Definition.Answers.{granted, Decision}
use Rattle.kernel.specs.Definition.Calls.{Call, «open», close, load}
use Rattle.kernel.specs.Definition.Bytes.{segment_at, from-buffer, ram_after, output_after}
use Rattle.kernel.specs.Definition.Lend.{lent_on, part_on}
use Rattle.kernel.specs.Definition.Step.{decided, completed, step}
use Rattle.kernel.specs.Laws.Effects.{Effect, resets, opens, closes, reads, writes, names, counts, links, tells, bounds, grants, shares, frees, stores, loads, loads-module, Verdict, bars, drives, refuses, starts, does, verdict}
use Rattle.kernel.specs.Laws.Ready.{Ready, decided-ready}
use Rattle.kernel.specs.Laws.Records.{record-within}
use Rattle.kernel.specs.declared.Tables.{Tables}
use Rattle.history.specs.Definition.Runs.{State, after, event}
use Rattle.history.specs.Definition.NoMark.{InRecord, Asked, after_all, Lost, LoadsLost, AlikeBut, LeavesNoMarkLater}
use Rattle.history.specs.Definition.Lent.{buffer_of, size_of}
use Rattle.history.specs.Bytes.LentOn.{lent-known, lent-size, part-byte, no_part}
use Rattle.history.specs.Bytes.Steps.{store-fits, done-length}
use Rattle.history.specs.Bytes.UserBytes.{loaded-length, loaded_byte, loaded-behind}
use Rattle.history.specs.NoMark.Again.{leaves-no-mark}
use Rattle.history.specs.NoMark.Settled.{Settled, same, left}
use Rattle.history.specs.NoMark.Lines.{OnLine, lines_same, done-settles, done-line}

-- what is the same or lost stays so, where it settles
lost-on : {P : ℕ → Type 0} {was : List ℕ} {i x y x₁ y₁ : ℕ} → Settled x y x₁ y₁ → (x ≡ y) ⊎ Lost P was i x y → (x₁ ≡ y₁) ⊎ Lost P was i x₁ y₁
lost-on (same e) o = inl e
lost-on (left p q) (inl e) = inl (p ∙ e ∙ sym q)
lost-on (left p q) (inr o) = inr (record { place = o.place; zero = p ∙ o.zero; old = q ∙ o.old })

-- the tables t with the RAMs a and b: alike but for bytes that are lost, and all along the line
record Alike (P : ℕ → Type 0) (was : List ℕ) (t : Tables) (a b : List ℕ) : Type 0 where
  ready : Ready t (length b)
  size : length a ≡ length b
  each : (i : ℕ) → (get_or a i 0 ≡ get_or b i 0) ⊎ Lost P was i (get_or a i 0) (get_or b i 0)
  line : OnLine t a b

module _ (P : ℕ → Type 0) (was : List ℕ) (t : Tables) (a b : List ℕ) (l : Alike P was t a b) where
  other : Ready t (length a)
  other = rw l.size l.ready

  -- the RAMs stay alike
  done-so : {c : Call} {d : Decision} → Ready d.tables (length b) → Effect t c d
      → Alike P was d.tables (ram_after t d.tables a d.ram) (ram_after t d.tables b d.ram)
  done-so r m =
      let n = done-length b l.ready m in
      record {
        ready = rw n r;
        size = done-length a other m ∙ l.size ∙ sym n;
        each = λ i. lost-on (done-settles t a b l.ready l.size l.line m i) (l.each i);
        line = done-line t a b l.ready l.size l.line m;
      }

  next-so : {c : Call} {d : Decision} → Ready d.tables (length b) → Verdict t (length b) c d
      → Alike P was d.tables (ram_after t d.tables a d.ram) (ram_after t d.tables b d.ram)
  unfolding ram_after
  next-so r (bars e) = l
  next-so r (drives h) = l
  next-so r (refuses answer p) = l
  next-so r (starts e) =
      record { ready = rw (length-replicate {A = ℕ} (length b) 0) r; size = rw l.size; each = λ i. inl (rw l.size); line = λ p h. rw l.size }
  next-so r (does g m) = done-so r m

  load_byte : (from size : ℕ) (output : List ℕ) → from + size ≤ length b → (j : ℕ)
      → let x = get_or (filled size (take size (drop from a)) output) j 0 in
      let y = get_or (filled size (take size (drop from b)) output) j 0 in
      (x ≡ y) ⊎ ((j < size) × Lost P was (from + j) x y)
  load_byte from size output h j =
      let g : from + size ≤ length a = rw l.size h in
      elim (dec_lt j size) [
        | yes q ↦ elim (lost-on (left (loaded_byte a from size output g j q) (loaded_byte b from size output h j q)) (l.each (from + j))) [ inl e ↦ inl e | inr e ↦ inr (q, e) ]
        | no q ↦ inl (loaded-behind a from size output g j (omega arith) ∙ sym (loaded-behind b from size output h j (omega arith)))
      ]

  -- of the outputs that a call leaves: as many bytes, and the same but for lost ones that it loads
  record Loaded (c : Call) (d : Decision) (j x y : ℕ) : Type 0 where
    segment : ℕ
    offset : ℕ
    size : ℕ
    call : c ≡ load segment offset size
    done : granted d.answer ≡ true
    within : j < size
    lost : Lost P was (segment_at (row_of t segment) + offset + j) x y

  record Shows (c : Call) (d : Decision) (output : List ℕ) : Type 0 where
    size : length (output_after t a d.output output) ≡ length (output_after t b d.output output)
    bytes : (j : ℕ)
        → let x = get_or (output_after t a d.output output) j 0 in
        let y = get_or (output_after t b d.output output) j 0 in
        (x ≡ y) ⊎ Loaded c d j x y

  all_same : {c : Call} {d : Decision} {output : List ℕ} → output_after t a d.output output ≡ output_after t b d.output output → Shows c d output
  all_same e = record { size = ap length e; bytes = λ j. inl (ap (λ (xs : List ℕ). get_or xs j 0) e) }

  read_same : (channel offset asked : ℕ) → channel_at t channel < t.opened → (output : List ℕ)
      → (let i = channel_at t channel in
      let n = given_of (size_at t i) offset asked in
      output_after t a (from-buffer i offset n) output ≡ output_after t b (from-buffer i offset n) output)
  unfolding output_after
  read_same channel offset asked h output =
      let i = channel_at t channel in
      let n = given_of (size_at t i) offset asked in
      let within = record-within t i l.ready.good h in
      ap (λ (xs : List ℕ). filled n xs output)
      (lines_same t a b l.ready l.size l.line (buffer_at t i + offset) n (λ k q. omega (arith, given_inside (size_at t i) offset asked k q)))

  effect-shows : {c : Call} {d : Decision} → Effect t c d → (output : List ℕ) → Shows c d output
  unfolding output_after filled
  effect-shows resets output = all_same refl
  effect-shows (opens c number asked low new device few fits) output = all_same refl
  effect-shows (closes h) output = all_same refl
  effect-shows (reads {channel} {offset} {asked} h) output = all_same (read_same channel offset asked h output)
  effect-shows (writes h w) output = all_same refl
  effect-shows (names h) output = all_same refl
  effect-shows counts output = all_same refl
  effect-shows (links w few h fits) output = all_same refl
  effect-shows tells output = all_same refl
  effect-shows (bounds s h) output = all_same refl
  effect-shows (grants h) output = all_same refl
  effect-shows (shares s) output = all_same refl
  effect-shows (frees h o) output = all_same refl
  effect-shows (stores m h) output = all_same refl
  effect-shows (loads {segment} {offset} {size} m h) output =
      let from = segment_at (row_of t segment) + offset in
      let fits = store-fits t b (row_of t segment) offset size l.ready m h in
      let lengths = loaded-length a from size (rw l.size fits) ∙ sym (loaded-length b from size fits) in
      record {
        size = length-append (take size (drop from a)) (drop size output) ∙ ap (λ (x : ℕ). x + length (drop size output)) lengths
            ∙ sym (length-append (take size (drop from b)) (drop size output));
        bytes = λ j. elim (load_byte from size output fits j) [ inl e ↦ inl e | inr (q, e) ↦ inr (record { segment = segment; offset = offset; size = size; call = refl; done = refl; within = q; lost = e }) ];
      }
  effect-shows (loads-module n m h) output = all_same refl

  shows : {c : Call} {d : Decision} → Verdict t (length b) c d → (output : List ℕ) → Shows c d output
  unfolding output_after
  shows (bars e) output = all_same refl
  shows (drives h) output = all_same refl
  shows (refuses answer p) output = all_same refl
  shows (starts e) output = all_same refl
  shows (does g m) output = effect-shows m output

  -- what is lent of a buffer
  part_same : (channel : ℕ) → part_on t a channel ≡ part_on t b channel
  part_same channel = go (lent_on t (length b) channel) refl
    where
      go : (x : Option ℕ) → x ≡ lent_on t (length b) channel → part_on t a channel ≡ part_on t b channel
      go None e = no_part t a other channel (rw l.size e) ∙ sym (no_part t b l.ready channel e)
      go (Some at) e =
          let n = size_of t channel in
          let f : Some at ≡ lent_on t (length a) channel = rw l.size e in
          let within = record-within t (channel_at t channel) l.ready.good (lent-known t b l.ready channel at e) in
          let long = lent-size t a other channel at f in
          ext_get_or 0 (part_on t a channel) (part_on t b channel) (long ∙ sym (lent-size t b l.ready channel at e))
          (λ j h.
          let k = n - 1 - j in
          let back : n - 1 - k ≡ j = omega arith in
          rw back at (part-byte t a other channel at f k (omega arith))
          ∙ l.line (buffer_of t channel + k) (omega arith)
          ∙ sym (rw back at (part-byte t b l.ready channel at e k (omega arith))))

-- two states
module _ (P : ℕ → Type 0) (was : List ℕ) where
  module _ (s u : State) (e : u.tables ≡ s.tables) (l : Alike P was s.tables u.ram s.ram) (c : Call) (output : List ℕ) where
    so : Shows P was s.tables u.ram s.ram l c (decided s.tables (length s.ram) (length output) c) output
    so = shows P was s.tables u.ram s.ram l (verdict s.tables (length s.ram) (length output) c) output

    shown : (event u c output).output ≡ output_after s.tables u.ram (decided s.tables (length s.ram) (length output) c).output output
    unfolding step completed
    shown = rw (e, l.size)

    bytes-but : (j : ℕ) → (get_or (event u c output).output j 0 ≡ get_or (event s c output).output j 0) ⊎ LoadsLost P was s u c output j
    unfolding step completed
    bytes-but j =
        let o : get_or (event u c output).output j 0 ≡ _ = ap (λ (xs : List ℕ). get_or xs j 0) shown in
        elim (so.bytes j) [
          | inl f ↦ inl (o ∙ f)
          | inr k ↦
              inr (record {
                segment = k.segment;
                offset = k.offset;
                size = k.size;
                call = k.call;
                done = k.done;
                within = k.within;
                lost = record { place = k.lost.place; zero = o ∙ k.lost.zero; old = k.lost.old };
              })
        ]

  alike-but : (s u : State) → u.tables ≡ s.tables → Alike P was s.tables u.ram s.ram → AlikeBut P was s u
  unfolding step completed
  alike-but s u e l = record {
    tables = e;
    size = l.size;
    each = l.each;
    answer = λ c output. rw (e, l.size);
    moved = λ c output. rw (e, l.size);
    lengths = λ c output. ap length (shown s u e l c output) ∙ (so s u e l c output).size;
    bytes = bytes-but s u e l;
    lent = λ channel. rw e (part_same P was s.tables u.ram s.ram l channel);
  }

  next : (s u : State) → u.tables ≡ s.tables → Alike P was s.tables u.ram s.ram → (c : Call) (output : List ℕ)
      → ((after u c output).tables ≡ (after s c output).tables) × Alike P was (after s c output).tables (after u c output).ram (after s c output).ram
  unfolding step completed
  next s u e l c output =
      let ram = length s.ram in
      rw (e, l.size)
      (refl, next-so P was s.tables u.ram s.ram l (decided-ready s.tables ram (length output) c l.ready) (verdict s.tables ram (length output) c))

  all-later : (s u : State) → u.tables ≡ s.tables → Alike P was s.tables u.ram s.ram → (rest : List Asked) → AlikeBut P was (after_all s rest) (after_all u rest)
  all-later s u e l [] = alike-but s u e l
  all-later s u e l (a ∷ rest) = let n = next s u e l a.call a.output in all-later (after s a.call a.output) (after u a.call a.output) n.0 n.1 rest

-- whether an index is a place of a record
in-record : (t : Tables) (channel i : ℕ) → Dec (InRecord t channel i)
in-record t channel i =
    let row = channel_at t channel in
    elim (find (place_of t.chain t.room) i (record_at t row) (16 + size_at t row)) [
      | one k h e ↦ yes (record { k = k; within = h; place = e })
      | none off ↦ no (λ r. off r.k r.within r.place)
    ]

pub leaves-no-mark-later : LeavesNoMarkLater
leaves-no-mark-later s good size channel driver n name output output₁ e rest =
    let m = leaves-no-mark s good size channel driver n name output output₁ e in
    let opened = after s («open» channel driver n name) output in
    all-later (InRecord opened.tables channel) s.ram s (after opened (close channel) output₁) m.tables
    (record {
      ready = record { good = good; size = size };
      size = m.size;
      each = λ i. elim (in-record opened.tables channel i) [
        | yes in-it ↦ inr (record { place = in-it; zero = m.zero i in-it; old = refl })
        | no off ↦ inl (m.kept i off)
      ];
      line = λ p h. m.kept (place_of s.tables.chain s.tables.room p) (λ in-it. m.apart _ in-it p h refl);
    }) rest

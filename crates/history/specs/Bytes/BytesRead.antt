-- "A byte read from an open channel is the one last written there through that channel since its opening, or zero if none was, however often the buffer moved."
-- "The byte rule of condition 3 speaks of the bytes given" (order 2).
use Rattle.std.specs.Prelude.{◌≡◌, true, false, cond, List, ◌∷◌, ◌++◌, ℕ, ◌+◌, ◌≤◌, ◌<◌, eqb, leb}
use Rattle.std.proofs.Math.Path.{refl, ap}
use Rattle.std.proofs.Common.{sym, subst, ◌∙◌, not-suc-le-zero, lt-ltb, le-ltb}
use native.Mathlib.Omega.{arith}
use Rattle.std.proofs.lemmas.Bool.{lt-leb}
use Rattle.std.proofs.Math.ListN.{length, get_or, drop, length-append, get_or-append}
use Rattle.line.specs.Definition.Line.{place_of, line_from}
use Rattle.line.specs.Definition.Ram.{filled}
use Rattle.line.specs.Definition.Given.{given_of}
use Rattle.line.specs.Laws.Given.{given-whole, given-rest, given-none, given_inside}
use Rattle.line.specs.Laws.Walks.{length-bytes, bytes-at}
use Rattle.modules.specs.Laws.Stored.{stored-below}
use Rattle.modules.specs.Definition.Judging.{puts_in}
use Rattle.kernel.specs.Definition.Tables.{row_of, channel_at}
use Rattle.kernel.specs.Definition.Line.{size_at, buffer_at, opening, closing}
use Rattle.kernel.specs.Definition.Segments.{granting, sharing_last, bounding}
use Rattle.kernel.specs.Definition.Devices.{linking, device_named}
use Rattle.kernel.specs.Definition.Start.{started}
use Rattle.kernel.specs.Definition.Answers.{b_of, granted, Decision}
use Rattle.kernel.specs.Definition.Calls.{Call, read, on_read}
use Rattle.kernel.specs.Definition.Bytes.{from-buffer, ram_opened, ram_after, output_after}
use Rattle.kernel.specs.Definition.Step.{heard, decided, completed, step}
use Rattle.kernel.specs.Definition.Refusals.{OpenAt}
use Rattle.kernel.specs.Laws.Keeps.{start-passed, start_is}
use Rattle.kernel.specs.Laws.Effects.{Effect, resets, opens, closes, reads, writes, names, counts, links, tells, bounds, grants, shares, frees, stores, loads, loads-module, effect}
use Rattle.kernel.specs.Laws.Changes.{opening-opens, closing-closes, linking-links}
use Rattle.kernel.specs.Laws.Ready.{Ready, ready-test}
use Rattle.kernel.specs.declared.Tables.{Tables}
use Rattle.kernel.specs.declared.Answer.TheVariants.{Done, BadRange}
use Rattle.history.specs.Definition.Runs.{State, History, after, event, Started, NotAccepted, Runs, stay, then, Run, LastSize, ReadRight, ReadsRight}
use Rattle.history.specs.Bytes.Words.{written, last_written, last_written_lem, last_size, last-size}
use Rattle.history.specs.Answers.Found.{open_at, open-one}
use Rattle.history.specs.Bytes.Buffers.{channel_in, Holds, free-by, write-law, open-law, close-law, link-law, store-law, reset-law, load-law}
use Rattle.history.specs.Bytes.Sized.{Sized, done-sized}
use Rattle.history.specs.Bytes.Steps.{Sound, done-length, Stepped, refused, done, stepped, step-sound, start-sound}

-- every done call makes of every open channel's bytes what `written` says
done-holds : {t : Tables} {c : Call} {d : Decision} (ram : List ℕ) (f : ℕ → ℕ → ℕ) → Ready t (length ram) → Ready d.tables (length ram) → Holds f t ram
    → Effect t c d → Holds (λ channel k. written c channel k (f channel k)) d.tables (ram_after t d.tables ram d.ram)
unfolding written ram_after granting sharing_last bounding
done-holds {t} ram f r s holds (resets {flags}) = reset-law t ram r f holds flags
done-holds {t} ram f r s holds (opens c e m low new device few fits) =
    subst (λ (x : ℕ). Holds (λ d k. cond (eqb x d) 0 (f d k)) (opening t c) (ram_opened t (opening t c) ram c)) e
    (open-law t ram r f holds (opening t c) c (opening-opens t c) few s)
done-holds {t} ram f r s holds (closes {channel} h) =
    close-law t ram r f holds (closing t (channel_at t channel)) (channel_at t channel) (closing-closes t (channel_at t channel)) h s
done-holds {t} ram f r s holds (reads h) = holds
done-holds {t} ram f r s holds (writes {channel} {offset} {bytes} h l) = write-law t ram r f holds channel offset bytes h l
done-holds {t} ram f r s holds (names h) = holds
done-holds {t} ram f r s holds counts = holds
done-holds {t} ram f r s holds (links {m} {name} w few h fits) =
    link-law t ram r f holds (linking t m (device_named name)) m (linking-links t m (device_named name)) (omega arith) s
done-holds {t} ram f r s holds tells = holds
done-holds {t} ram f r s holds (bounds a h) = holds
done-holds {t} ram f r s holds (grants h) = holds
done-holds {t} ram f r s holds (shares a) = holds
done-holds {t} ram f r s holds (frees {caller} {segment} h o) = free-by t (row_of t segment) (λ u. Holds f u ram) (λ classes user. holds)
done-holds {t} ram f r s holds (stores {segment} {offset} {bytes} m h) = store-law t ram r f holds (row_of t segment) offset bytes m h
done-holds {t} ram f r s holds (loads m h) = holds
done-holds {t} ram f r s holds (loads-module {segment} {page} {offset} {stream} b m h) = load-law t ram r f holds (row_of t segment) (puts_in page offset stream) m (stored-below _ _ _ h)

-- after a start no channel is open
start_none : (s : State) → Started s → s.tables.opened ≡ 0
unfolding step completed started
start_none s z =
    let b = z.before in
    let passed = start-passed b.tables (length b.ram) (length z.output) z.room z.list z.accepted in
    ap (λ (x : State). x.tables.opened) z.left
    ∙ ap (λ (d : Decision). d.tables.opened) (start_is b.tables (length b.ram) (length z.output) z.room z.list passed)

step-holds : (s : State) (c : Call) (output : List ℕ) (h : History) → Sound s → NotAccepted (event s c output) → Holds (last_written h) s.tables s.ram
    → Sized (last_size h) s.tables
    → Holds (last_written (event s c output ∷ h)) (after s c output).tables (after s c output).ram × Sized (last_size (event s c output ∷ h)) (after s c output).tables
unfolding last_written last_size
step-holds s c output h r n holds sized = go (stepped s c output n)
  where
    go : Stepped s c output
        → Holds (last_written (event s c output ∷ h)) (after s c output).tables (after s c output).ram × Sized (last_size (event s c output ∷ h)) (after s c output).tables
    go (refused e q) =
        let same : Holds (last_written h) (after s c output).tables (after s c output).ram × Sized (last_size h) (after s c output).tables =
        subst (λ (x : State). Holds (last_written h) x.tables x.ram × Sized (last_size h) x.tables) (sym q) (holds, sized) in
        rw e same
    go (done d e m p q) =
        let there : Ready d.tables (length s.ram) = rw (p, q, done-length s.ram r m) at (step-sound s c output r n) in
        rw (e, p, q) (done-holds s.ram (last_written h) r there holds m, done-sized (last_size h) r.good there.good sized m)

-- every state of a run is sound, every byte of its open channels is the one last written there, and the size of each is the one it was last opened with
pub run_holds : {P : State → Type 0} {s t : State} {h : History} → Started s → Runs P s h t
    → Sound t × Holds (last_written h) t.tables t.ram × Sized (last_size h) t.tables
run_holds {s = s} z (stay _) =
    (start-sound s z, λ i a. absurd (not-suc-le-zero (rw (start_none s z) at a)), λ i a. absurd (not-suc-le-zero (rw (start_none s z) at a)))
run_holds z (then {h = h} {t = t} r c output n _) =
    let b = run_holds z r in
    let next = step-holds t c output h b.0 n b.1 b.2 in
    (step-sound t c output b.0 n, next.0, next.1)

-- a done read gives the bytes of its channel
read_known : {t : Tables} {channel offset asked : ℕ} {d : Decision} → Effect t (read channel offset asked) d
    → (channel_at t channel < t.opened) × (d.answer ≡ Done 0 (given_of (size_at t (channel_at t channel)) offset asked))
    × (d.output ≡ from-buffer (channel_at t channel) offset (given_of (size_at t (channel_at t channel)) offset asked))
read_known (reads h) = (h, refl, refl)

module _ (t : State) (h : History) (r : Sound t) (holds : Holds (last_written h) t.tables t.ram) (sized : Sized (last_size h) t.tables) where
  read-gives : (channel offset asked : ℕ) (output : List ℕ) → granted (event t (read channel offset asked) output).answer ≡ true
      → ReadRight channel offset asked h (event t (read channel offset asked) output)
  unfolding step completed output_after filled
  read-gives channel offset asked output e =
      let u = t.tables in
      let j = channel_at u channel in
      let c = read channel offset asked in
      let n = size_at u j in
      let b = given_of n offset asked in
      let known = read_known (effect u (length t.ram) (length output) c refl e) in
      let number : b_of (event t c output).answer ≡ b = ap b_of known.1 in
      let here : channel_in u j ≡ channel = (open_at u r.good channel known.0).number in
      let walk = place_of u.chain u.room in
      let p = buffer_at u j + offset in
      let there = line_from u.chain u.room t.ram p b in
      let many : length there ≡ b = length-bytes walk t.ram p b in
      let filled_is : (event t c output).output ≡ there ++ drop b output = rw known.2 in
      record {
        n = n;
        opened_with = rw (sized j known.0, here) (last-size channel h);
        given = known.1;
        whole = λ l. number ∙ given-whole n offset asked l;
        rest = λ l m. ap (λ (x : ℕ). offset + x) number ∙ given-rest n offset asked l m;
        past = λ l. number ∙ given-none n offset asked l;
        fits = omega (arith, number, many, ap length filled_is, length-append there (drop b output));
        bytes = λ i l.
            let k : i < b = rw (← number) l in
            let at : p + i ≡ buffer_at u j + (offset + i) = omega arith in
            let byte : get_or (event t c output).output i 0 ≡ last_written h channel (offset + i) =
            rw filled_is (get_or-append there (drop b output) 0 i (omega arith))
            ∙ bytes-at walk t.ram p b i k
            ∙ ap (λ (x : ℕ). get_or t.ram (walk x) 0) at
            ∙ holds j known.0 (offset + i) (given_inside n offset asked i k)
            ∙ ap (λ (x : ℕ). last_written h x (offset + i)) here in
            rw byte (last_written_lem channel (offset + i) h);
      }

-- A read that is done after any sequence of calls since an accepted start, with no second start, gives as many bytes as remain, from the offset on, of the
-- n that the channel was opened with, up to the length asked, and each of them is the one last written there through that channel since its opening, or
-- zero if none was.
pub bytes_read : {h : History} {t : State} → Run h t → (channel offset asked : ℕ) (output : List ℕ)
    → granted (event t (read channel offset asked) output).answer ≡ true
    → ReadRight channel offset asked h (event t (read channel offset asked) output)
bytes_read {h} {t} r = let b = run_holds r.started r.runs in read-gives t h b.0 b.1 b.2

right : {P : State → Type 0} {s t : State} {h : History} → Started s → Runs P s h t → ReadsRight h
right z (stay _) = tt
right z (then {h = h} {t = t} r c output n _) =
    let b = run_holds z r in (
      λ channel offset asked q.
          subst (λ (x : Call). granted (event t x output).answer ≡ true → ReadRight channel offset asked h (event t x output))
          (sym q) (read-gives t h b.0 b.1 b.2 channel offset asked output),
      right z r,
    )

-- The same of every read of the sequence itself, over nothing but its calls and replies.
pub reads-right : {h : History} {t : State} → Run h t → ReadsRight h
reads-right r = right r.started r.runs

-- The n that the tables have for an open channel is the one that it was last opened with.
pub buffer-size : {h : History} {t : State} → Run h t → (channel row : ℕ) → OpenAt t.tables channel row → LastSize channel h (size_at t.tables row)
buffer-size {h} {t} r channel row o =
    let b = run_holds r.started r.runs in
    rw (b.2 row o.row, o.number) (last-size channel h)

-- "read gives RANGE only where the lent output is shorter than what it would give": a read of an open channel is done, or refused for that alone.
pub read-exactly : {h : History} {t : State} → Run h t → (channel row : ℕ) → OpenAt t.tables channel row → (offset asked : ℕ) (output : List ℕ)
    → let b = given_of (size_at t.tables row) offset asked in
    (b ≤ length output → (event t (read channel offset asked) output).answer ≡ Done 0 b)
    × (length output < b → (event t (read channel offset asked) output).answer ≡ BadRange)
unfolding step decided heard completed on_read
read-exactly {h} {t} r channel row o offset asked output =
    let s = (run_holds r.started r.runs).0 in
    let b = given_of (size_at t.tables row) offset asked in
    let here : channel_at t.tables channel ≡ row = open-one t.tables s.good channel row o in
    let is_open : leb t.tables.opened row ≡ false = lt-leb t.tables.opened row o.row in
    (λ l. rw (ready-test s, here, is_open, le-ltb (length output) b l), λ l. rw (ready-test s, here, is_open, lt-ltb (length output) b l))

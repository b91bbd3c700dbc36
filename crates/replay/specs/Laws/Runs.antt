-- A replay is a run of history: once a start is accepted, what is proved of any sequence of calls is proved of what `replay` leaves.
use Rattle.std.specs.Prelude.{◌≡◌, refl, Bool, true, false, cond, List, [], ◌∷◌, ◌++◌, ℕ}
use Rattle.std.proofs.lemmas.Bool.{false≢true}
use Rattle.std.proofs.Common.{inl, inr}
use Rattle.kernel.specs.Definition.Answers.{granted}
use Rattle.kernel.specs.Definition.Calls.{Call, start, reset, «open», close, read, write, default, status, link, boundary, set-user-boundary, allocate, free, store, load, load-module, no_call, short-start}
use Rattle.kernel.specs.Definition.Step.{Result, heard, decided, completed, step}
use Rattle.history.specs.Definition.Runs.{State, History, after, event, stay, then, Run, ReadRight}
use Rattle.history.specs.Bytes.BytesRead.{bytes_read}
use Rattle.replay.specs.Definition.Replay.{EventRecord, records, asked, replayed}
use Rattle.replay.specs.Definition.Runs.{state_of, call_of, event_of, accepted_start, since, HasAcceptedStart}

start-run : (s : State) (c : Call) (output : List ℕ) → accepted_start (event s c output) ≡ true → Run [] (after s c output)
unfolding step decided heard completed
start-run s (start room list) output e = record {
  first = after s (start room list) output;
  started = record { before = s; room = room; list = list; output = output; accepted = e; left = refl };
  runs = stay tt;
}
start-run s (reset flags) output e = absurd (false≢true e)
start-run s («open» channel driver n name) output e = absurd (false≢true e)
start-run s (close channel) output e = absurd (false≢true e)
start-run s (read channel offset asked) output e = absurd (false≢true e)
start-run s (write channel offset bytes) output e = absurd (false≢true e)
start-run s (default unit name) output e = absurd (false≢true e)
start-run s status output e = absurd (false≢true e)
start-run s (link m name) output e = absurd (false≢true e)
start-run s boundary output e = absurd (false≢true e)
start-run s (set-user-boundary value) output e = absurd (false≢true e)
start-run s (allocate caller) output e = absurd (false≢true e)
start-run s (free caller segment) output e = absurd (false≢true e)
start-run s (store segment offset bytes) output e = absurd (false≢true e)
start-run s (load segment offset size) output e = absurd (false≢true e)
start-run s (load-module segment page offset stream) output e = absurd (false≢true e)
start-run s no_call output e = absurd (false≢true e)
start-run s short-start output e = absurd (false≢true e)

module _ (m : Result) (r : EventRecord) where
  next-run : (h : History) → Run h (state_of m) → Run (cond (accepted_start (event_of m r)) [] (event_of m r ∷ h)) (state_of (asked m r))
  next-run h run = go (accepted_start (event_of m r)) refl
    where
      go : (s : Bool) → accepted_start (event_of m r) ≡ s → Run (cond s [] (event_of m r ∷ h)) (state_of (asked m r))
      go true e = start-run (state_of m) (call_of r) m.output e
      go false e = record {
        first = run.first;
        started = run.started;
        runs = then run.runs (call_of r) m.output e tt;
      }

-- from any state of a run, the records lead to a state of a run
pub run_on : (h : History) (m : Result) (rs : List EventRecord) → Run h (state_of m) → Run (since h m rs) (state_of (replayed m rs))
run_on h m [] run = run
run_on h m (r ∷ rs) run = run_on (cond (accepted_start (event_of m r)) [] (event_of m r ∷ h)) (asked m r) rs (next-run m r h run)

-- and from any tables, RAM and output, once one of them is an accepted start
pub run-from : (h : History) (m : Result) (rs : List EventRecord) → HasAcceptedStart m rs → Run (since h m rs) (state_of (replayed m rs))
run-from h m [] s = absurd s
run-from h m (r ∷ rs) (inl e) = rw e (run_on [] (asked m r) rs (start-run (state_of m) (call_of r) m.output e))
run-from h m (r ∷ rs) (inr s) = run-from (cond (accepted_start (event_of m r)) [] (event_of m r ∷ h)) (asked m r) rs s

-- What `replay` leaves of a buffer with an accepted start is a state of a run: its history is the events since the last one.
pub replay-run : (m : Result) (xs : List ℕ) → HasAcceptedStart m (records xs) → Run (since [] m (records xs)) (state_of (replayed m (records xs)))
replay-run m xs s = run-from [] m (records xs) s

-- ---- for example: a byte read

replayed-last : (m : Result) (rs : List EventRecord) (q : EventRecord) → replayed m (rs ++ (q ∷ [])) ≡ asked (replayed m rs) q
replayed-last m [] q = refl
replayed-last m (r ∷ rs) q = replayed-last (asked m r) rs q

-- The last record of a replayed buffer is a read, and is done: what it gives is what it should, as many bytes as remain, from the offset on, of what the
-- channel was opened with, up to the length asked, and each the one last written there through that channel since its opening, or zero if none was.
pub last-read : (m : Result) (xs : List ℕ) (rs : List EventRecord) (q : EventRecord) → records xs ≡ rs ++ (q ∷ []) → HasAcceptedStart m rs
    → (channel offset wanted : ℕ) → call_of q ≡ read channel offset wanted → granted (replayed m (records xs)).answer ≡ true
    → ReadRight channel offset wanted (since [] m rs)
    (record { call = call_of q; answer = (replayed m (records xs)).answer; output = (replayed m (records xs)).output; moved = (replayed m (records xs)).moved })
last-read m xs rs q e s channel offset wanted is done =
    let last = replayed-last m rs q in
    rw (e, last, is) (bytes_read (run-from [] m rs s) channel offset wanted (replayed m rs).output (rw (e, last, is) at done))

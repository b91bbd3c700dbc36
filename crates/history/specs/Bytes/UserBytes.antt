-- "A user's byte changes only by the user's store while that place stays the user's."
use Rattle.std.specs.Prelude.{◌≡◌, refl, List, ◌∷◌, true, ℕ, ◌+◌, ◌-◌, ◌≤◌, ◌<◌, get_or, take, drop}
use Rattle.std.proofs.Math.Path.{ap}
use Rattle.std.proofs.Common.{◌∙◌, arith, length-take, length-drop, get_or-append-add}
use Rattle.std.proofs.Math.ListN.{length, get_or-append}
use Rattle.std.proofs.Math.Seq.{get_or-take, get_or-drop}
use Rattle.line.specs.Definition.Ram.{filled}
use Rattle.kernel.specs.Definition.Tables.{row_of}
use Rattle.kernel.specs.Definition.Segments.{may_reach, reach_of}
use Rattle.kernel.specs.Definition.Answers.{granted, Decision}
use Rattle.kernel.specs.Definition.Calls.{Call, load}
use Rattle.kernel.specs.Definition.Bytes.{from-segment, segment_at, output_after}
use Rattle.kernel.specs.Definition.Step.{completed, step}
use Rattle.kernel.specs.Laws.Effects.{Effect, loads, effect}
use Rattle.kernel.specs.Laws.Changes.{effect-listed}
use Rattle.kernel.specs.Laws.Ready.{Ready}
use Rattle.kernel.specs.declared.Tables.{Tables}
use Rattle.history.specs.Definition.Runs.{State, History, after, event, NotAccepted, Runs, stay, then, Run, LastStored}
use Rattle.history.specs.Bytes.Words.{stored, last_stored, last_stored_lem}
use Rattle.history.specs.Definition.Users.{UsersIn, user_byte}
use Rattle.history.specs.Bytes.Places.{reach-users}
use Rattle.history.specs.Bytes.Steps.{Sound, store-fits, done-length, Stepped, refused, done, stepped, step-sound}
use Rattle.history.specs.Bytes.BytesRead.{run_holds}
use Rattle.history.specs.Bytes.Stores.{done-user}

module _ (segment offset : ℕ) where
  step-user : (s : State) (c : Call) (output : List ℕ) (h : History) (first : ℕ) → Sound s → NotAccepted (event s c output)
      → UsersIn segment offset s → UsersIn segment offset (after s c output) → user_byte s segment offset ≡ last_stored h segment offset first
      → user_byte (after s c output) segment offset ≡ last_stored (event s c output ∷ h) segment offset first
  unfolding last_stored
  step-user s c output h first r n b l old = go (stepped s c output n)
    where
      go : Stepped s c output → user_byte (after s c output) segment offset ≡ last_stored (event s c output ∷ h) segment offset first
      go (refused e q) = rw e (ap (λ (x : State). user_byte x segment offset) q ∙ old)
      go (done d e m p q) =
          let there : Ready d.tables (length s.ram) = rw (p, q, done-length s.ram r m) at (step-sound s c output r n) in
          let kept = effect-listed m in
          let row : row_of d.tables segment ≡ row_of s.tables segment = rw (kept.segments, kept.list) in
          rw (e, p, row, q)
          (done-user s.ram r there segment offset b (rw (p, row) at l) m
          ∙ ap (stored c segment offset) old)

  user-runs : {s t : State} {h : History} → Sound s → Runs (UsersIn segment offset) s h t
      → Sound t × UsersIn segment offset t × (user_byte t segment offset ≡ last_stored h segment offset (user_byte s segment offset))
  unfolding last_stored
  user-runs r (stay u) = (r, u, refl)
  user-runs {s = s} r (then {h = h} {t = t} w c output n u) =
      let b = user-runs r w in
      (step-sound t c output b.0 n, u, step-user t c output h (user_byte s segment offset) b.0 n b.1 u b.2)

-- From any state s of a sequence of calls since an accepted start, over any further calls with no second start through which the place stays the user's:
-- the byte there is the one that the user last stored there since, by a store or a load of a module, or the one that it was.
pub user-bytes : {h : History} {s : State} → Run h s → (segment offset : ℕ) {j : History} {t : State} → Runs (UsersIn segment offset) s j t
    → LastStored segment offset (user_byte s segment offset) j (user_byte t segment offset)
user-bytes r segment offset w = rw (user-runs segment offset (run_holds r.started r.runs).0 w).2 (last_stored_lem segment offset _ _)

-- what a load of `size` bytes from index `from` on puts into the output: those bytes, and behind them what was there
pub loaded-length : (ram : List ℕ) (from size : ℕ) → from + size ≤ length ram → length (take size (drop from ram)) ≡ size
loaded-length ram from size fits = omega (arith, length-take size (drop from ram), length-drop from ram)

module _ (ram : List ℕ) (from size : ℕ) (output : List ℕ) (fits : from + size ≤ length ram) where
  pub loaded_byte : (i : ℕ) → i < size → get_or (filled size (take size (drop from ram)) output) i 0 ≡ get_or ram (from + i) 0
  unfolding filled
  loaded_byte i h =
      get_or-append (take size (drop from ram)) (drop size output) 0 i (omega (arith, loaded-length ram from size fits)) ∙ get_or-take size (drop from ram) i 0 h ∙ get_or-drop from ram i 0

  pub loaded-behind : (i : ℕ) → size ≤ i → get_or (filled size (take size (drop from ram)) output) i 0 ≡ get_or (drop size output) (i - size) 0
  unfolding filled
  loaded-behind i h =
      let e : length (take size (drop from ram)) + (i - size) ≡ i = omega (arith, loaded-length ram from size fits) in
      rw e at (get_or-append-add (take size (drop from ram)) (drop size output) (i - size) 0)

-- What a done load gives: bytes that are the user's, as they lie.
load-known : {t : Tables} {segment offset size : ℕ} {d : Decision} → Effect t (load segment offset size) d
    → (may_reach t (row_of t segment) ≡ true) × (offset + size ≤ reach_of t (row_of t segment)) × (d.output ≡ from-segment (row_of t segment) offset size)
load-known (loads m h) = (m, h, refl)

pub sound-loads : (s : State) → Sound s → (segment offset size : ℕ) (output : List ℕ) → granted (event s (load segment offset size) output).answer ≡ true
    → (i : ℕ) → i < size → UsersIn segment (offset + i) s × (get_or (event s (load segment offset size) output).output i 0 ≡ user_byte s segment (offset + i))
unfolding step completed output_after
sound-loads s r segment offset size output e i l =
    let t = s.tables in
    let row = row_of t segment in
    let known = load-known (effect t (length s.ram) (length output) (load segment offset size) refl e) in
    let fits = store-fits t s.ram row offset size r known.0 known.1 in
    let at : segment_at row + offset + i ≡ segment_at row + (offset + i) = omega arith in (
      reach-users t row (offset + i) known.0 (omega (arith, known.1)),
      rw known.2 (loaded_byte s.ram (segment_at row + offset) size output fits i l) ∙ ap (λ (x : ℕ). get_or s.ram x 0) at,
    )

pub user-loads : {h : History} {s : State} → Run h s → (segment offset size : ℕ) (output : List ℕ)
    → granted (event s (load segment offset size) output).answer ≡ true
    → (i : ℕ) → i < size → UsersIn segment (offset + i) s × (get_or (event s (load segment offset size) output).output i 0 ≡ user_byte s segment (offset + i))
user-loads {s = s} run = sound-loads s (run_holds run.started run.runs).0

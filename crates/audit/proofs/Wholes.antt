-- The verdict on a whole log, from the records of its buffer.
use mathlib.Core.Path.{◌≡◌, ◌∙◌}
use mathlib.Core.List.{List, [], ◌∷◌, append-nil}
use Prim.Native.Nat.{ℕ, ◌-◌}
use lib.ListN.{length, replicate, length-drop}
use Rattle.kernel.specs.Definition.Start.{no_tables}
use Rattle.kernel.specs.declared.Tables.{Tables}
use Rattle.audit.specs.declared.Due.TheVariants.{Start}
use Rattle.audit.specs.declared.Judged.{Judged}
use Rattle.std.specs.Prelude.{Ok, Err}
use Rattle.audit.specs.declared.Word.{Word}
use Rattle.audit.specs.Definition.Log.{mark, first}
use Rattle.audit.specs.Definition.Pieces.{state_of, Stops, StopsBy, Session, passes, fetched, failed, over}
use Rattle.audit.specs.Definition.Verdict.{Verdict, Fault, at_end, verdict_of}
use Rattle.audit.specs.Laws.Reading.{any-pieces}

-- a log in one piece
in_one : (log : List ℕ) (v : Verdict) → Session (first log) [] v → v ≡ verdict_of log
in_one log v s = rw (append-nil log) at (any-pieces (log ∷ []) v (fetched s))

module _ (t : Tables) (e : t ≡ no_tables) (log : List ℕ) (j : Judged) (ram out : List ℕ)
    (s : Stops (mark 0 (state_of Start t (replicate 65536 0) (replicate 4090 0)) log) j ram out log) where
  pub log-over : j.stop ≡ Ok tt → (v : Verdict) → v ≡ at_end j.number j.due (length log - j.taken) → v ≡ verdict_of log
  log-over q v is =
      let d : StopsBy (Ok tt) (first log) j ram out log = rw (e, q) at s in
      is ∙ rw (length-drop j.taken log) at (in_one log _ (passes d.0 (over d.1)))

  pub log-fault : (word : Word) → j.stop ≡ Err word → Fault j.number word ≡ verdict_of log
  log-fault word q = let d : StopsBy (Err word) (first log) j ram out log = rw (e, q) at s in in_one log _ (failed d)

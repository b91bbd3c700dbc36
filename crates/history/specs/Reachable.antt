-- Every state that a sequence of calls since an accepted start reaches: its tables are good and its RAM has their size, so that no call of the sequence is
-- answered TABLES. What is proved of good tables is proved of it.
use Rattle.std.specs.Prelude.{◌≡◌, true, List, ℕ, length}
use Rattle.kernel.specs.Definition.Answers.{granted}
use Rattle.kernel.specs.Definition.Calls.{Call, «open», close, link}
use Rattle.kernel.specs.Definition.Step.{completed, step}
use Rattle.kernel.specs.Laws.Ready.{never-tables}
use Rattle.history.specs.Definition.Runs.{State, History, after, event, Started, Runs, stay, then, Run}
use Rattle.history.specs.Definition.NoMark.{InRecord, NoMark, Asked, after_all, AlikeBut}
use Rattle.history.specs.Definition.Reachable.{GoodState, NeverTables}
use Rattle.history.specs.Bytes.BytesRead.{run_holds}
use Rattle.history.specs.Definition.Layout.{Layout}
use Rattle.history.specs.Definition.Places.{offered, Outside}
use Rattle.history.specs.Definition.Room.{Fewest, Passes, OnlyRoom, records_and, LinkFits}
use Rattle.history.specs.NoMark.Again.{leaves-no-mark}
use Rattle.history.specs.NoMark.Later.{leaves-no-mark-later}
use Rattle.history.specs.NoMark.Next.{leaves-no-mark-next}
use Rattle.history.specs.Room.Fewest.{fewest}
use Rattle.history.specs.Room.RoomExactly.{open-exactly, link-exactly}

good-state : {P : State → Type 0} {s t : State} {h : History} → Started s → Runs P s h t → GoodState t
unfolding step completed
good-state {t = t} z r =
    let b = (run_holds z r).0 in
    record { good = b.good; size = b.size; heard = λ c output. never-tables t.tables (length t.ram) (length output) c b }

all-heard : {P : State → Type 0} {s t : State} {h : History} → Started s → Runs P s h t → NeverTables h
all-heard z (stay _) = tt
all-heard z (then r c output n _) = ((good-state z r).heard c output, all-heard z r)

-- Every reachable state is good, and TABLES is never the answer: of the next call, and of every call of the sequence.
pub reachable : {h : History} {s : State} → Run h s → GoodState s × NeverTables h
reachable r = (good-state r.started r.runs, all-heard r.started r.runs)

-- The system holds the fewest segments.
pub reachable-fewest : {h : History} {s : State} → Run h s → Fewest s.tables
reachable-fewest {s = s} r = fewest s.tables (reachable r).0.good

-- An open that passes every earlier check is refused for room exactly when no layout fits. A link, where `LinkFits` does not hold: besides a layout it asks that
-- R - m is at least 256 and that the m bytes are no part of the user's, which a layout alone does not give (Room/LinkAlone.antt).
module _ {h : History} {s : State} (r : Run h s) (output : List ℕ) where
  pub reachable-open : (channel driver n : ℕ) (name : List ℕ) → Passes s.tables (length s.ram) (length output) («open» channel driver n name)
      → OnlyRoom (event s («open» channel driver n name) output).answer (Layout (records_and s.tables n) (Outside s.tables s.tables.room (offered s.tables)))
  unfolding step completed
  reachable-open channel driver n name p =
      open-exactly s.tables (length s.ram) (length output) channel driver n name (reachable r).0.good.sized p

  pub reachable-link : (m : ℕ) (name : List ℕ) → Passes s.tables (length s.ram) (length output) (link m name)
      → OnlyRoom (event s (link m name) output).answer (LinkFits s.tables m)
  unfolding step completed
  reachable-link m name p = link-exactly s.tables (length s.ram) (length output) m name (reachable r).0.good.sized p

-- Open and close again leaves no mark: the next call has the same reply, and any calls that follow but for bytes that they load from where the record lay.
module _ {h : History} {s : State} (r : Run h s) (channel driver n : ℕ) (name output output₁ : List ℕ)
    (done : granted (event s («open» channel driver n name) output).answer ≡ true) where
  abbrev opened : State
  opened = after s («open» channel driver n name) output

  pub reachable-no-mark : NoMark s opened channel n output₁
  reachable-no-mark = let g = (reachable r).0 in leaves-no-mark s g.good g.size channel driver n name output output₁ done

  pub reachable-no-mark-next : (c : Call) (output₂ : List ℕ) → event (after opened (close channel) output₁) c output₂ ≡ event s c output₂
  reachable-no-mark-next = let g = (reachable r).0 in leaves-no-mark-next s g.good g.size channel driver n name output output₁ done

  pub reachable-no-mark-later : (rest : List Asked) → AlikeBut (InRecord opened.tables channel) s.ram (after_all s rest) (after_all (after opened (close channel) output₁) rest)
  reachable-no-mark-later = let g = (reachable r).0 in leaves-no-mark-later s g.good g.size channel driver n name output output₁ done

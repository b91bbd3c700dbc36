-- How a run of the auditing program ends, for any outcome of its write, and the byte that tells it.
use Rattle.std.specs.Prelude.{ℕ, ◌-◌, Result, Ok, Err}
use Rattle.files.specs.declared.Unwritten.{Unwritten}
use Rattle.files.specs.declared.Unwritten.TheVariants.{Failed, Closed}
use Rattle.files.specs.Definition.Outcomes.{Wrote}
use Rattle.audit.specs.declared.Due.{Due}
use Rattle.audit.specs.Definition.Verdict.{Verdict, Fault, at_end}
use Rattle.exos_audit.specs.declared.Course.{Course}
use Rattle.exos_audit.specs.declared.Course.TheVariants.{Going, Over, Broken, Faulted}
use Rattle.exos_audit.specs.declared.Failure.{Failure}
use Rattle.exos_audit.specs.declared.Failure.TheVariants.{ReadFailed, WriteFailed, ReaderEnded}
use Rattle.exos_audit.specs.declared.State.{State}

-- the verdict that is printed, or what failed
abbrev pub End : Type 0
End = Result Verdict Failure

-- what a write that is not done ends with: it failed, or its reader has ended
abbrev pub failure_of : Unwritten → Failure
failure_of (Failed n) = WriteFailed
failure_of (Closed n) = ReaderEnded

-- after a write of a verdict's line
abbrev pub end_of : Verdict → Wrote → End
end_of verdict (Ok done) = Ok verdict
end_of verdict (Err why) = Err (failure_of why)

-- by how the run went: a verdict is printed where the input is over or a record is at fault; else a read failed, or the turns did not last to the end of the input
abbrev pub told_by : Course → (number : ℕ) → Due → (left : ℕ) → Wrote → End
told_by Going number due left wrote = Err ReadFailed
told_by Broken number due left wrote = Err ReadFailed
told_by Over number due left wrote = end_of (at_end number due left) wrote
told_by (Faulted word) number due left wrote = end_of (Fault number word) wrote

abbrev pub told : State → Wrote → End
told s wrote = told_by s.course s.number s.due (s.filled - s.from) wrote

-- `0` and `f`
abbrev pub byte_for : Verdict → ℕ
byte_for (Ok accepted) = 48
byte_for (Err fault) = 102

-- `r`, `w` and `p`
abbrev pub byte_of : End → ℕ
byte_of (Ok verdict) = byte_for verdict
byte_of (Err ReadFailed) = 114
byte_of (Err WriteFailed) = 119
byte_of (Err ReaderEnded) = 112

-- How a listing ends, and the byte that tells it.
use Rattle.std.specs.Prelude.{cond, ℕ, eqb, Result, Ok, Err}
use Rattle.listing.specs.declared.Failure.{Failure}
use Rattle.listing.specs.declared.Failure.TheVariants.{BadLog, ReadFailed, WriteFailed, ReaderEnded}

-- every record is listed, or why not
abbrev pub End : Type 0
End = Result (Unit {0}) Failure

-- where the input ends and so many bytes are left, less than a record
abbrev pub end_of : ℕ → End
end_of left = cond (eqb left 0) (Ok tt) (Err BadLog)

-- `0`, `b`, `r`, `w` and `p`
abbrev pub byte_of : End → ℕ
byte_of (Ok done) = 48
byte_of (Err BadLog) = 98
byte_of (Err ReadFailed) = 114
byte_of (Err WriteFailed) = 119
byte_of (Err ReaderEnded) = 112

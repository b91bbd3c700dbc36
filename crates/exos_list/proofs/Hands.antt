-- What is in hand of the buffer where a record is not whole.
use Rattle.std.proofs.Common.{◌≡◌, List, ℕ, ◌+◌, ◌-◌, ◌<◌, ◌≤◌, arith, length, take, drop, Err}
use Rattle.events.specs.declared.NoRecord.TheVariants.{Cut}
use Rattle.events.specs.Definition.Records.{front_of}
use Rattle.events.specs.Laws.Front.{cut_short}
use Rattle.files.specs.Laws.Windows.{left-length}

pub left-short : (buf : List ℕ) (from filled taken : ℕ) → from ≤ filled → filled ≤ length buf → front_of (drop taken (take (filled - from) (drop from buf))) ≡ Err Cut
    → filled < from + taken + 4098
left-short buf from filled taken h l e =
    omega (arith, cut_short (drop taken (take (filled - from) (drop from buf))) e, left-length buf from filled taken h l)

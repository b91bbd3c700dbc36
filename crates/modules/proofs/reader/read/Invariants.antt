-- `reader::read` meets its contract. The bit fetch keeps what the item's bits so far will come to; the reader, what the rest of the stream will.
use Rattle.std.proofs.Common.{◌≡◌, ◌+◌, ◌-◌, ◌*◌, ◌<◌, ◌≤◌, length, drop}
use Rattle.modules.specs.Definition.Bits.{bits_in}
use Rattle.modules.specs.Definition.Judging.{judged}
use Rattle.modules.specs.Definition.Counter.{Counts}
use Rattle.modules.specs.Within.Codes.{Coded}
use Rattle.modules.specs.Within.Acts.{put_where}
use Rattle.modules.specs.Within.Scan.{scan, scanned, stored_before}
use Rattle.modules.specs.Laws.Turns.{Comes}
use Rattle.modules.proofs.reader.read.Given as goal

abbrev pub invariant-loop-left : goal.invariant-loop-left
invariant-loop-left l = (l.at ≤ l.end) × (l.initial.at ≤ l.at) × (l.initial.at < l.at + l.left) × Coded (l.at - l.initial.at) l.code l.left
    × (scanned (length (l.seen)) l.target l.c l.code l.left (drop l.at (bits_in l.seen)) ≡ scan (length (l.seen)) l.target l.c 1 3 (drop l.initial.at (bits_in l.seen)))

abbrev pub decreases-loop-left : goal.decreases-loop-left
decreases-loop-left l = l.end - l.at

abbrev pub invariant-reader : goal.invariant-reader
invariant-reader l = (l.at ≤ l.end) × (length l.ram ≡ length l.initial.ram) × Counts l.c
    × Comes l.storing (16384 * l.target.row) l.ram (scan (length (l.seen)) l.target l.c 1 3 (drop l.at (bits_in l.seen))) (judged l.target l.initial.c l.stream)
    (put_where l.storing (16384 * l.target.row) l.initial.ram (stored_before l.target l.initial.c l.stream))

abbrev pub decreases-reader : goal.decreases-reader
decreases-reader l = l.end - l.at

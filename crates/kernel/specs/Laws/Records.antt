-- The records of good tables lie end to end, within their line.
use Rattle.std.specs.Prelude.{List, [], ◌∷◌, ℕ, zero, suc, ◌+◌, ◌≤◌, ◌<◌, take}
use Rattle.std.proofs.Common.{not-suc-le-zero, le_of_suc-le-suc, arith}
use Rattle.rows.specs.Definition.Channels.{zero_channel, sum_of}
use Rattle.rows.specs.Laws.ChannelRows.{sum_more}
use Rattle.rows.specs.declared.Channel.{Channel}
use Rattle.kernel.specs.Definition.Good.{Good}
use Rattle.kernel.specs.Definition.Line.{record_at, size_at, total_of}
use Rattle.kernel.specs.declared.Tables.{Tables}

-- fewer records are no longer
sum_mono : (xs : List Channel) (i n : ℕ) → i ≤ n → sum_of (take i xs) ≤ sum_of (take n xs)
sum_mono xs zero n h = omega arith
sum_mono xs (suc i) zero h = absurd (not-suc-le-zero h)
sum_mono [] (suc i) (suc n) h = omega arith
sum_mono (x ∷ xs) (suc i) (suc n) h = omega (arith, sum_mono xs i n (le_of_suc-le-suc h))

-- a record ends before a later one starts
pub record-before : (t : Tables) (i j : ℕ) → Good t → i < j → j ≤ t.opened → record_at t i + (16 + size_at t i) ≤ record_at t j
record-before t i j g h l =
    omega (arith, sum_more t.channels i zero_channel (omega (arith, g.sized.channels, g.channels.most)), sum_mono t.channels (i + 1) j (omega arith))

pub record-within : (t : Tables) (i : ℕ) → Good t → i < t.opened → record_at t i + (16 + size_at t i) ≤ total_of t
record-within t i g h = record-before t i t.opened g h (omega arith)

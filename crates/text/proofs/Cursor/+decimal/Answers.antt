-- `decimal` puts the tenth part's numeral, if there is one, and the last digit.
use Rattle.std.proofs.Common.{arith}
use Rattle.text.specs.Laws.Text.{decimal-one, puts_then}
use Rattle.text.proofs.Numerals.{decimal-more, decimal-length}
use Rattle.text.proofs.Cursor.+decimal.Goals as goal
use Rattle.text.proofs.Cursor.+decimal.Goals.{then-n-ge10, else-n-ge10}

pub decimal-requires : goal.decimal-requires
decimal-requires t c = (omega (arith, c.decreases), omega (arith, c.requires, decimal-length c.args.n c.if-n-ge10.true))

pub put-requires : goal.put-requires
put-requires t c = elim c.if-n-ge10.branch [
  | then-n-ge10 w ↦ rw w.self-is (omega (arith, w.decimal.ensures.put.stop, w.decimal.ensures.long, c.requires, decimal-length c.args.n w.if-n-ge10.true))
  | else-n-ge10 w ↦ rw w.self-is (omega (arith, rw (decimal-one c.args.n w.if-n-ge10.false) at c.requires))
]

pub returns : goal.returns
returns t c = elim c.if-n-ge10.branch [
  | then-n-ge10 w ↦ rw (decimal-more c.args.n w.if-n-ge10.true, ← c.digit.ensures) (puts_then w.decimal.ensures (rw w.self-is at c.put.ensures))
  | else-n-ge10 w ↦ rw (decimal-one c.args.n w.if-n-ge10.false, ← c.digit.ensures) (rw w.self-is at c.put.ensures)
]

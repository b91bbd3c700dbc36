-- `decimal` calls itself on the tenth part: the measure is the number.
use Rattle.text.proofs.Cursor.+decimal.Given as goal

abbrev pub decreases-decimal : goal.decreases-decimal
decreases-decimal l = l.n

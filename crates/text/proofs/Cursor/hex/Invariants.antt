-- `hex` writes two digits a byte. The invariant: the first bytes are put.
use Rattle.std.proofs.Common.{take}
use Rattle.text.specs.Definition.Put.{Puts}
use Rattle.text.specs.Definition.Text.{hex_of}
use Rattle.text.proofs.Cursor.hex.Given as goal

abbrev pub invariant-loop-x : goal.invariant-loop-x
invariant-loop-x l = Puts l.initial.self l.self (hex_of (take l.x-index l.bytes))

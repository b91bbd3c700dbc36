-- `word` lays the bytes that find room, and zeros stay zeros in capitals.
use Rattle.std.proofs.Common.{◌∙◌, arith}
use Rattle.names.specs.Laws.Laid.{word-copied}
use Rattle.names.proofs.word.Goals as goal

pub returns : goal.returns
returns c =
    c.make_ascii_uppercase.ensures.after
    ∙ rw c.copy_from_slice.ensures.after (word-copied c.args.s.now c.min-n.result c.args.count (omega arith))

-- `audit::put_fault` meets its contract.
use Rattle.std.proofs.Common.{arith}
use Rattle.text.specs.Laws.Text.{puts_then, put-within}
use Rattle.audit.proofs.words.put_fault.Goals as goal

pub returns : goal.returns
returns c =
    let line = puts_then (puts_then (puts_then c.decimal.ensures c.put.ensures) c.put_word.ensures.0) c.put-2.ensures in
    (line, put-within (omega arith) line.put)

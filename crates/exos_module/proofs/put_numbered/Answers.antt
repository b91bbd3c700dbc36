-- `put_numbered` puts a letter and a numeral.
use Rattle.text.specs.Laws.Text.{puts_then}
use Rattle.exos_module.proofs.put_numbered.Goals as goal

pub returns : goal.returns
returns c = puts_then c.put.ensures c.decimal.ensures

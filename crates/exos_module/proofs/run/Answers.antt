-- `exos_module::run` meets its contract where the reads end otherwise than with the input.
use Rattle.std.proofs.Common.{Ok, rules}
use Rattle.exos_module.proofs.run.Goals as goal

pub returns-in_err-n : goal.returns-in_err-n
returns-in_err-n c = record { filled = c.read_all.result; wrote = Ok tt; fills = search rules; end_is = search rules }

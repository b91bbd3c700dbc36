-- `number` reads what the run shows to be digits.
use Rattle.std.proofs.Common.{sym, ◌∙◌}
use Rattle.names.specs.Laws.Runs.{all-run}
use Rattle.names.specs.declared.Kind.TheVariants.{Digit}
use Rattle.names.proofs.number.Goals as goal

pub value_of-requires : goal.value_of-requires
value_of-requires c = all-run Digit c.args.digits.now (sym c.run.ensures ∙ c.if-run-digits.false)

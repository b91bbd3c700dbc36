-- `segments::exact` meets its contract.
use Rattle.std.proofs.Common.{◌∙◌}
use Rattle.rows.proofs.Counted.{stand_same}
use Rattle.rows.proofs.segments.exact.Goals as goal

pub returns : goal.returns
returns c = c.stand.ensures ∙ stand_same c.args.classes.now c.args.chain.now c.tallies.result c.args.last c.requires.0 c.tallies.ensures

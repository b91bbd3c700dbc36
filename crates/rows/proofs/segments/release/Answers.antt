use Rattle.std.proofs.Common.{rules}
use Rattle.std.proofs.lemmas.List.Edits.{map_over_more}
use Rattle.rows.specs.Definition.Classes.{released}
use Rattle.rows.proofs.segments.release.Goals as goal

pub loop-class-preserved : goal.loop-class-preserved
loop-class-preserved c = search (rules, map_over_more released)

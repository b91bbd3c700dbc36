-- `segments::release` meets its contract. The loop's invariant: the rows passed are released.
use Rattle.std.proofs.Common.{◌≡◌, ◌++◌, map, take, drop}
use Rattle.rows.specs.Definition.Classes.{released}
use Rattle.rows.proofs.segments.release.Given as goal

abbrev pub invariant-loop-class : goal.invariant-loop-class
invariant-loop-class l = l.class-items ≡ map released (take l.class-index l.fn.classes) ++ drop l.class-index l.fn.classes

-- `runs::put_fall` has put the first i bytes.
use Rattle.std.proofs.Common.{◌≡◌, take}
use Rattle.line.specs.Definition.Ram.{put_from}
use Rattle.line.specs.Within.Runs.{fall}
use Rattle.line.proofs.runs.put_fall.Given as goal

abbrev pub invariant-loop-i : goal.invariant-loop-i
invariant-loop-i l = l.ram ≡ put_from (fall l.d) l.initial.ram 0 (take l.i l.xs)

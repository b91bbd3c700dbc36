-- `ram::load` has loaded the first i bytes.
use Rattle.std.proofs.Common.{◌≡◌}
use Rattle.line.specs.Definition.Ram.{bytes_from, put_from}
use Rattle.line.specs.Within.Runs.{rise}
use Rattle.line.proofs.ram.load.Given as goal

abbrev pub invariant-loop-i : goal.invariant-loop-i
invariant-loop-i l = l.out ≡ put_from (rise 0) l.initial.out 0 (bytes_from (rise l.at) l.ram 0 l.i)

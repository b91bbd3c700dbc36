-- `ram::store` has stored the first i bytes.
use Rattle.std.proofs.Common.{◌≡◌, take}
use Rattle.line.specs.Definition.Ram.{put_from}
use Rattle.line.specs.Within.Runs.{rise}
use Rattle.line.proofs.ram.store.Given as goal

abbrev pub invariant-loop-i : goal.invariant-loop-i
invariant-loop-i l = l.ram ≡ put_from (rise l.at) l.initial.ram 0 (take l.i l.xs)

-- `value_of` reads on from `n`, and the value of the whole stays the same.
use Rattle.std.proofs.Common.{◌≡◌, ◌≤◌, drop}
use Rattle.names.specs.Definition.Grammar.{value}
use Rattle.names.proofs.value_of.Given as goal

abbrev pub invariant-loop-digit : goal.invariant-loop-digit
invariant-loop-digit l = (value l.n (drop l.digit-index l.digits) ≡ value 0 l.digits) × (l.n ≤ 255)

-- What the functions' proofs apply.
use Rattle.std.specs.Prelude.{ℕ, ◌-◌, ◌≡◌, List, length, take, drop}
use Rattle.std.proofs.Common.{take_all, length-drop, arith}
use Rattle.names.specs.Laws.Runs.{run-le}

-- what a part of a slice from `n` on holds
pub part-from : (n : ℕ) (s : List ℕ) → take (length s - n) (drop n s) ≡ drop n s
part-from n s = take_all (length s - n) (drop n s) (omega (arith, length-drop n s))

pub ruleset steps = (run-le, part-from)

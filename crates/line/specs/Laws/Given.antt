-- What a read gives: all that is asked where the buffer has it, what remains where it does not, nothing at or past the end.
use Rattle.std.specs.Prelude.{◌≡◌, ℕ, ◌+◌, ◌≤◌, ◌<◌}
use Rattle.std.proofs.Common.{arith}
use Rattle.line.specs.Definition.Given.{given_of}

pub given-whole : (n offset asked : ℕ) → offset + asked ≤ n → given_of n offset asked ≡ asked
unfolding given_of
given-whole n offset asked h = omega arith

pub given-rest : (n offset asked : ℕ) → offset ≤ n → n ≤ offset + asked → offset + given_of n offset asked ≡ n
unfolding given_of
given-rest n offset asked h l = omega arith

pub given-none : (n offset asked : ℕ) → n ≤ offset → given_of n offset asked ≡ 0
unfolding given_of
given-none n offset asked h = omega arith

-- each byte given lies before the end
pub given_inside : (n offset asked i : ℕ) → i < given_of n offset asked → offset + i < n
unfolding given_of
given_inside n offset asked i h = omega arith

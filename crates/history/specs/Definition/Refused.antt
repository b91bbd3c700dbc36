-- "A refused call returns the refusal's fixed values" (the invitation, condition 1): which they are. "Other and refused calls report 0" (order 8).
use Rattle.std.specs.Prelude.{◌≡◌, ◌≢◌, List, ℕ}
use Rattle.kernel.specs.Definition.Answers.{number_of, a_of, b_of}
use Rattle.kernel.specs.Definition.Calls.{Call, «open»}
use Rattle.kernel.specs.declared.Answer.{Answer}

-- "A refusal gives a = b = 0 but for DRIVER", which has the number 7 and is given to an open alone: "driver status not 0; a is that status"
pub data FixedValues (c : Call) (answer : Answer) (moved : ℕ) : Type 0 where
  zeros : number_of answer ≢ 7 → a_of answer ≡ 0 → b_of answer ≡ 0 → moved ≡ 0 → FixedValues c answer moved
  driver : {channel status n : ℕ} {name : List ℕ} → c ≡ «open» channel status n name → status ≢ 0
      → number_of answer ≡ 7 → a_of answer ≡ status → b_of answer ≡ 0 → moved ≡ 0 → FixedValues c answer moved

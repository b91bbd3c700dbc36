-- "Condition 2's definition gives one result for each input": the forms in which that is said. Proved in Answers/Proved.antt.
use Rattle.std.specs.Prelude.{◌≡◌, cond, List, ◌≢◌, ◌⊎◌, ◌↔◌, ℕ, ◌≤◌, ◌<◌}
use Rattle.std.proofs.Math.Option.{Option, none, some}
use Rattle.names.specs.Definition.Grammar.{Reading, Reads}
use Rattle.kernel.specs.Definition.Good.{Sized}
use Rattle.kernel.specs.Definition.Answers.{number_of, granted}
use Rattle.kernel.specs.Definition.Calls.{Call}
use Rattle.kernel.specs.Definition.Refusals.{Row}
use Rattle.kernel.specs.Definition.Step.{decided, step, Result}
use Rattle.kernel.specs.declared.Tables.{Tables}
use Rattle.kernel.specs.declared.Answer.{Answer}

-- ---- the answer: "Several at once: the lowest number wins."

-- C k is that row k of the refusal table holds. The answer's number is k where row k holds and no lower row does, and 0 where no row holds
pub data IsAnswer (C : ℕ → Type 0) : ℕ → Type 0 where
  refused : {k : ℕ} → C k → ((j : ℕ) → j < k → ¬ C j) → IsAnswer C k
  passed : ((j : ℕ) → ¬ C j) → IsAnswer C 0

-- "0 is done. 17 SHARED is a grant": the number of a refusal, and 0 where the call was not refused
abbrev pub refusal : Answer → ℕ
refusal answer = cond (granted answer) 0 (number_of answer)

-- A call on tables of the type's sizes, as all tables of the code are (the contract of `is_ready`), is answered by the lowest row that holds
abbrev pub AnswersLowest : Type 0
AnswersLowest =
    (t : Tables) (ram output : ℕ) (c : Call) → Sized t → IsAnswer (Row t ram output c) (refusal (decided t ram output c).answer)

-- The same by the numbers: any but 0 and 17 is given exactly where that row holds and no lower one does
abbrev pub RefusesLowest : Type 0
RefusesLowest =
    (t : Tables) (ram output : ℕ) (c : Call) → Sized t → (k : ℕ) → 1 ≤ k → k ≢ 17
    → (number_of (decided t ram output c).answer ≡ k) ↔ (Row t ram output c k × ((j : ℕ) → j < k → ¬ Row t ram output c j))

-- and 0 or 17 exactly where no row holds
abbrev pub GrantsRest : Type 0
GrantsRest =
    (t : Tables) (ram output : ℕ) (c : Call) → Sized t
    → ((number_of (decided t ram output c).answer ≡ 0) ⊎ (number_of (decided t ram output c).answer ≡ 17)) ↔ ((j : ℕ) → ¬ Row t ram output c j)

-- There is at most one such number, whatever the rows
abbrev pub OneAnswer : Type 1
OneAnswer = (C : ℕ → Type 0) (k l : ℕ) → IsAnswer C k → IsAnswer C l → k ≡ l

-- ---- the result

-- A promise P about an input and a result is met by at most one result of each input, and by exactly one
abbrev pub AtMostOne : {I O : Type 0} → (I → O → Type 0) → Type 0
AtMostOne {I} {O} P = (i : I) (x y : O) → P i x → P i y → x ≡ y

abbrev pub ExactlyOne : {I O : Type 0} → (I → O → Type 0) → Type 0
ExactlyOne {I} {O} P = ((i : I) → (x : O) × P i x) × AtMostOne P

-- all that a call is given
pub record Input : Type 0 where
  pub tables : Tables
  pub ram : List ℕ
  pub call : Call
  pub output : List ℕ

-- the definition gives the result for the input: what every public call's `ensures` says of its answer, tables, RAM, output and
-- bytes moved.
-- It is a function, so it gives one; that each number comes exactly where 01 and 02 say is `RefusesLowest` and `GrantsRest`
abbrev pub Defined : Input → Result → Type 0
Defined i r = r ≡ step i.tables i.ram i.call i.output

abbrev pub OneResult : Type 0
OneResult = ExactlyOne Defined

-- ---- names: a string's reading, or none

pub data ReadsAs (s : List ℕ) : Option Reading → Type 0 where
  named : {r : Reading} → Reads s r → ReadsAs s (some r)
  unnamed : ((r : Reading) → ¬ Reads s r) → ReadsAs s none

abbrev pub OneReading : Type 0
OneReading = (s : List ℕ) (r q : Reading) → Reads s r → Reads s q → r ≡ q

abbrev pub OneName : Type 0
OneName = ExactlyOne ReadsAs

-- A body taken apart, and what the call in it leaves.
use mathlib.Core.Path.{◌≡◌, sym, ap, ◌∙◌}
use mathlib.Core.List.{List}
use Prim.Native.Nat.{ℕ, ◌-◌, ◌<◌}
use native.Mathlib.Omega.{arith}
use lib.ListN.{length, take, drop, length-drop}
use lib.Seq.{take_all}
use borrow.Author.Tests.{lt-ltb}
use Rattle.kernel.specs.Definition.Answers.{gives}
use Rattle.kernel.specs.Definition.Calls.{Call, no_call}
use Rattle.kernel.specs.Definition.Good.{Good}
use Rattle.kernel.specs.Definition.Tables.{ram_size}
use Rattle.kernel.specs.Definition.Step.{Result, heard, decided, result_of, completed, step}
use Rattle.kernel.specs.Laws.Ready.{ready-heard}
use Rattle.kernel.specs.declared.Tables.{Tables}
use Rattle.kernel.specs.declared.Outcome.{Outcome}
use Rattle.kernel.specs.declared.Answer.TheVariants.{BadCall}
use Rattle.std.specs.Int.{from_le_bytes, w16}
use Rattle.std.specs.Prelude.{◌+◌, ◌*◌, [], ◌∷◌}
use Rattle.events.specs.Definition.Records.{start_in}

-- the rest of a body, as a part of it
pub rest_of : (n : ℕ) (xs : List ℕ) → take (length xs - n) (drop n xs) ≡ drop n xs
rest_of n xs = take_all (length xs - n) (drop n xs) (simp length-drop (omega arith))

module _ (t : Tables) (ram : List ℕ) (out : List ℕ) (g : Good t) (s : length ram ≡ ram_size t) where
  pub step_heard : (c : Call) → step t ram c out ≡ completed t (heard t (length ram) (length out) c) ram out
  unfolding step
  step_heard c = rw (ready-heard t (length ram) (length out) c (record { good = g; size = s }))

  -- the call c that was made is the call in the body
  pub done : (c d : Call) (r : Outcome) (ram' out' : List ℕ) → d ≡ c → result_of r ram' out' ≡ completed t (heard t (length ram) (length out) c) ram out
      → result_of r ram' out' ≡ step t ram d out
  done c d r ram' out' e q = q ∙ sym (ap (λ x. step t ram x out) e ∙ step_heard c)

  -- no call
  pub refused : (r : Outcome) → r ≡ gives BadCall t → result_of r ram out ≡ step t ram no_call out
  unfolding heard completed
  refused r q = rw q (sym (step_heard no_call))

-- a start is heard on any tables
module _ (t : Tables) (ram : List ℕ) (body : List ℕ) (out : List ℕ) where
  pub no_start : (r : Outcome) → length body < 2 → r ≡ gives BadCall t → result_of r ram out ≡ step t ram (start_in body) out
  unfolding start_in step decided heard completed
  no_start r h q = rw (q, lt-ltb (length body) 2 h)

  pub start-done : (c : Call) (x : Result) → start_in body ≡ c → x ≡ step t ram c out → x ≡ step t ram (start_in body) out
  start-done c x e q = rw e q

-- a number of two bytes, the low one first
pub le16 : (a b : ℕ) → from_le_bytes w16 (a ∷ b ∷ []) ≡ a + 256 * b
le16 a b = omega arith

-- Start, reset and status.
use Rattle.std.specs.Prelude.{◌≡◌, List, ℕ, ◌*◌, ◌%◌, ◌≤◌, ◌<◌}
use Rattle.std.proofs.Math.Path.{refl}
use Rattle.std.proofs.Common.{inl, inr, arith}
use Rattle.std.proofs.Math.Logic.{⊎_elim}
use Rattle.std.proofs.Math.Decide.{dec_le}
use Rattle.std.proofs.Math.ListN.{length}
use Rattle.rows.specs.Definition.Lists.{padded}
use Rattle.rows.specs.Definition.Good.{ListGood}
use Rattle.rows.specs.Laws.Says.{says-le, says-lt, says_eq, says-and, says-or, says-not, says-as}
use Rattle.rows.specs.Laws.Good.{list-says}
use Rattle.kernel.specs.Definition.Tables.{SEGMENT}
use Rattle.kernel.specs.Definition.Calls.{start, reset, status, on_start, on_reset, on_status}
use Rattle.kernel.specs.Definition.Refusals.{Row, OtherBit, reset-flags, start-list, start-low, start-high, start-ram, status-output}
use Rattle.kernel.specs.declared.Tables.{Tables}
use Rattle.kernel.specs.declared.Answer.TheVariants.{BadFlags, BadStart, BadRange}
use Rattle.history.specs.Answers.Lowest.{Below, Lowest, end, rule}
use Rattle.history.specs.Answers.Tests.{says-either}
use Rattle.history.specs.Answers.Numbers.{by_rows, by-none}
use Rattle.history.specs.Answers.Rows.Flags.{low_bit, high_bit, bit-other}

-- what a start is given is right
abbrev Right : (ram room : ℕ) (list : List ℕ) → Type 0
Right ram room list = ((ListGood (padded 32 list) (length list) × (256 ≤ room)) × (room ≤ 16128)) × (ram ≡ SEGMENT * length list)

module _ {t : Tables} {ram output : ℕ} where
  start-16 : {room : ℕ} {list : List ℕ} → Row t ram output (start room list) 16 → ¬ Right ram room list
  start-16 (start-list n) h = n h.0.0.0
  start-16 (start-low n) h = omega (arith, h.0.0.1)
  start-16 (start-high n) h = omega (arith, h.0.1)
  start-16 (start-ram n) h = n h.1

  start-wrong : (room : ℕ) (list : List ℕ) → ¬ Right ram room list → Row t ram output (start room list) 16
  start-wrong room list n =
      elim (says-either (list-says (padded 32 list) (length list))) [
        | inr l ↦ start-list l
        | inl l ↦ elim (dec_le 256 room) [
          | no a ↦ start-low {room = room} (omega arith)
          | yes a ↦ elim (dec_le room 16128) [
            | no b ↦ start-high {room = room} (omega arith)
            | yes b ↦ start-ram (λ e. n (((l, a), b), e))
          ]
        ]
      ]

  status-13 : Row t ram output status 13 → output < 5
  status-13 (status-output h) = h

  reset-15 : {flags : ℕ} → Row t ram output (reset flags) 15 → (k : ℕ) × OtherBit flags k
  reset-15 (reset-flags {k = k} b) = (k, b)

module _ (t : Tables) (ram output : ℕ) where
  -- 16 START: "list, R or RAM length wrong"
  pub start-lowest : (room : ℕ) (list : List ℕ) → Below (Row t ram output (start room list)) 1
      → Lowest (Row t ram output (start room list)) (on_start t ram room list)
  unfolding on_start
  start-lowest room list =
      by_rows (start room list) _
      (rule BadStart refl (λ _. says-as
      (says-not (says-and (says-and (says-and (list-says (padded 32 list) (length list)) (says-le 256 room)) (says-le room 16128)) (says_eq ram (SEGMENT * length list))))
      (start-wrong room list) start-16)
      end)
      (by-none (start room list) _ refl refl)

  -- 13 RANGE: "lent output too short"
  pub status-lowest : Below (Row t ram output status) 2 → Lowest (Row t ram output status) (on_status t output)
  unfolding on_status
  status-lowest = by_rows status _ (rule BadRange refl (λ _. says-as (says-lt output 5) status-output status-13) end) (by-none status _ refl refl)

  -- 15 FLAGS: "a bit other than 4, 5, 6"
  pub reset-lowest : (flags : ℕ) → Below (Row t ram output (reset flags)) 2 → Lowest (Row t ram output (reset flags)) (on_reset t flags)
  unfolding on_reset
  reset-lowest flags =
      by_rows (reset flags) _
      (rule BadFlags refl (λ _. says-as (says-or (says-lt 0 (flags % 16)) (says-le 128 flags))
      (λ m. let (k, b) = ⊎_elim (low_bit flags) (high_bit flags) m in reset-flags {k = k} b)
      (λ r. let (k, b) = reset-15 r in bit-other flags k b))
      end)
      (by-none (reset flags) _ refl refl)

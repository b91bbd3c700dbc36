-- 9 ROOM: "room rule broken", and as the room rule is asked.
use Rattle.std.specs.Prelude.{ℕ, ◌+◌, ◌-◌, ◌*◌}
use Rattle.rows.specs.Definition.Classes.{FREE, SHARED}
use Rattle.rows.specs.Definition.Sizes.{boundary_at}
use Rattle.rows.specs.Laws.Says.{Says, says-le, says-and, says-as, says-cond}
use Rattle.kernel.specs.Definition.Tables.{SEGMENT, count_of}
use Rattle.kernel.specs.Definition.Good.{Good}
use Rattle.kernel.specs.Definition.Line.{room_for}
use Rattle.kernel.specs.Definition.Refusals.{Room}
use Rattle.kernel.specs.declared.Tables.{Tables}
use Rattle.history.specs.Answers.Found.{some-says}

module _ (t : Tables) (g : Good t) where
  -- "Room rule"
  pub room_says : (r n : ℕ) → Says (room_for t r n) (Room t r n)
  unfolding room_for
  room_says r n =
      says-as (says-cond (some-says t g SHARED) (says-and (says-le n (r + SEGMENT * (t.held - 1))) (says-le t.user (boundary_at r n)))
      (says-le n (r + SEGMENT * (t.held - 1 + count_of FREE t))))
      (λ (shared, apart). record { apart = apart; stays = λ s. (shared s).0; above = λ s. (shared s).1 })
      (λ w. (λ s. (w.stays s, w.above s), w.apart))

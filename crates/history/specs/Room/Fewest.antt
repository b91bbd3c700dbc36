-- "The system holds the fewest segments in which the open channels' records can lie with no place used twice." (Condition 3.)
use Rattle.std.specs.Prelude.{◌-◌, ◌≤◌, take}
use Rattle.std.proofs.Common.{arith}
use Rattle.rows.specs.Laws.Sizes.{chain-most}
use Rattle.kernel.specs.Definition.Line.{total_of}
use Rattle.kernel.specs.Definition.Good.{Good}
use Rattle.kernel.specs.Laws.Facts.{room_small, user-small}
use Rattle.kernel.specs.declared.Tables.{Tables}
use Rattle.history.specs.Definition.Places.{record_lengths, count_in, in_system}
use Rattle.history.specs.Room.Counts.{total-records, size-some, in-exists, outside-exists, held-size}
use Rattle.kernel.specs.Laws.Room.{line-sum}
use Rattle.history.specs.Room.Bounds.{top_in, top-clear}
use Rattle.history.specs.Definition.Room.{Fewest}

pub fewest : (t : Tables) → Good t → Fewest t
fewest t g =
    let h : 1 ≤ t.segments = omega (arith, g.list.least) in
    let n = total-records (take t.opened t.channels) in
    let s = held-size t g in
    record {
      lie = (outside-exists t g t.room (in_system t) (room_small t g) (user-small t g) (λ row b e. rw e) (top-clear t g) (record_lengths t) (top_in t g)
          ).1 (omega (arith, line-sum t.room (total_of t), g.line, g.user.most));
      many = s;
      least = λ set e l.
          let f = (in-exists t t.room set (room_small t g) (record_lengths t) h e).0 l in
          omega (arith, g.line, size-some t.segments set h e, chain-most t.room (total_of t) (count_in t.segments set - 1) (omega arith));
    }

-- "A buffer's bytes are lent on, for reading only, as that part of the RAM and nothing else where they lie in one segment."
use Rattle.std.specs.Prelude.{cond, Option, None, List, [], ℕ, ltb, length}
use Rattle.line.specs.Definition.Lent.{lent_at, part_of}
use Rattle.kernel.specs.Definition.Tables.{channel_at}
use Rattle.kernel.specs.Definition.Line.{size_at, buffer_at}
use Rattle.kernel.specs.Definition.Step.{ready_test}
use Rattle.kernel.specs.declared.Tables.{Tables}

-- of good tables: where the part starts that is lent of a channel's buffer; nothing is lent where the channel is not open
unfoldable pub lent_on_good : Tables → (channel : ℕ) → Option ℕ
unfolding lent_at
lent_on_good t channel =
    let i = channel_at t channel in
    cond (ltb i t.opened) (lent_at t.chain t.room (buffer_at t i) (size_at t i)) None

-- of any tables, with `ram` bytes lent: nothing where the tables are not good or the RAM has another length
unfoldable pub lent_on : Tables → (ram channel : ℕ) → Option ℕ
unfolding lent_on_good
lent_on t ram channel = cond (ready_test t ram) (lent_on_good t channel) None

-- the part itself, in the order of the RAM: the buffer's last byte first
unfoldable pub part_on_good : Tables → (ram : List ℕ) (channel : ℕ) → List ℕ
unfolding lent_on_good part_of
part_on_good t ram channel = part_of ram (size_at t (channel_at t channel)) (lent_on_good t channel)

unfoldable pub part_on : Tables → (ram : List ℕ) (channel : ℕ) → List ℕ
unfolding part_on_good
part_on t ram channel = cond (ready_test t (length ram)) (part_on_good t ram channel) []

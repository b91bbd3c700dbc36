-- The branches of the calls that read and write bytes, as the code takes them.
use mathlib.Core.Path.{◌≡◌, refl}
use mathlib.Core.Bool.{true, false}
use mathlib.Core.List.{List, []}
use Prim.Native.Nat.{ℕ, ◌+◌, ◌*◌, ◌≤◌, ◌<◌}
use borrow.Author.Tests.{lt-ltb, le-ltb, lt-leb, le-leb}
use lib.Dec.{ltb}
use lib.ListN.{length, take, drop}
use Rattle.std.specs.Prelude.{Option, Some, None}
use Rattle.line.specs.Definition.Line.{line_from, put_line}
use Rattle.line.specs.Definition.Given.{given_of}
use Rattle.line.specs.Definition.Ram.{put_at, filled}
use Rattle.line.specs.Definition.Lent.{lent_at, part_of}
use Rattle.line.specs.Definition.Guard.{guarded}
use Rattle.line.specs.declared.Line.{Line}
use Rattle.kernel.specs.Definition.Tables.{channel_at}
use Rattle.kernel.specs.Definition.Good.{Good}
use Rattle.kernel.specs.Definition.Line.{size_at}
use Rattle.kernel.specs.Definition.Segments.{reach_of}
use Rattle.kernel.specs.Definition.Answers.{gives}
use Rattle.kernel.specs.Definition.Calls.{on_read, on_write, on_store, on_load}
use Rattle.kernel.specs.Definition.Step.{completed, result_of, ready_test}
use Rattle.kernel.specs.Definition.Lend.{lent_on_good, part_on_good, lent_on, part_on}
use Rattle.kernel.specs.Within.{line_of, buffer_of, reached_at}
use Rattle.kernel.specs.declared.bytes.Buffer.{Buffer}
use Rattle.kernel.specs.declared.Tables.{Tables}
use Rattle.kernel.specs.declared.Outcome.{Outcome}
use Rattle.kernel.specs.declared.Answer.TheVariants.{Done, NoChannel, NotOwner, BadRange, Guarded}
use Rattle.kernel.proofs.Spans.{Open, opened, unopened, Reached, reached, unreached}

-- read

module _ (t : Tables) (ram out : List ℕ) (channel offset asked : ℕ) where
  pub read_closed : None ≡ buffer_of t channel → result_of (gives NoChannel t) ram out ≡ completed t (on_read t (length out) channel offset asked) ram out
  unfolding completed on_read
  read_closed n = rw (le-leb _ _ (unopened t channel n))

  module _ (b : Buffer) (found : Some b ≡ buffer_of t channel) (from most count : ℕ) (e : from ≡ offset) (f : most ≡ asked) (q : count ≡ given_of b.size from most) where
    read : Open t channel b
    read = opened t channel b found

    read_count : given_of (size_at t (channel_at t channel)) offset asked ≡ count
    read_count = rw (q, read.size, e, f)

    pub read_short : length out < count → result_of (gives BadRange t) ram out ≡ completed t (on_read t (length out) channel offset asked) ram out
    unfolding completed on_read
    read_short h = rw (lt-leb _ _ read.among, read_count, lt-ltb _ _ h)

    pub read_done : count ≤ length out → (l : Line) → l ≡ line_of t → (after : List ℕ)
        → after ≡ filled count (line_from l.chain l.room ram (b.start + from) count) out → (o : Outcome) → o ≡ gives (Done 0 count) t
        → result_of o ram after ≡ completed t (on_read t (length out) channel offset asked) ram out
    unfolding completed on_read
    read_done h l w after a o d = rw (lt-leb _ _ read.among, read_count, le-ltb _ _ h, d, a, w, read.start, e)

-- write

module _ (t : Tables) (ram bytes : List ℕ) (channel offset : ℕ) where
  pub write_closed : None ≡ buffer_of t channel → (out : List ℕ) → result_of (gives NoChannel t) ram out ≡ completed t (on_write t channel offset bytes) ram out
  unfolding completed on_write
  write_closed n out = rw (le-leb _ _ (unopened t channel n))

  module _ (b : Buffer) (found : Some b ≡ buffer_of t channel) (from : ℕ) (e : from ≡ offset) where
    written : Open t channel b
    written = opened t channel b found

    pub write_beyond : true ≡ ltb b.size (from + length bytes) → (out : List ℕ)
        → result_of (gives BadRange t) ram out ≡ completed t (on_write t channel offset bytes) ram out
    unfolding completed on_write
    write_beyond h out = rw (lt-leb _ _ written.among, ← written.size, ← e, ← h)

    pub write_done : false ≡ ltb b.size (from + length bytes) → (l : Line) → l ≡ line_of t → (after : List ℕ) → after ≡ put_line l.chain l.room ram (b.start + from) bytes
        → (o : Outcome) → o ≡ gives (Done 0 (length bytes)) t → (out : List ℕ) → result_of o after out ≡ completed t (on_write t channel offset bytes) ram out
    unfolding completed on_write
    write_done h l w after a o d out = rw (lt-leb _ _ written.among, ← written.size, ← e, ← h, d, a, w, written.start)

-- a buffer lent on

module _ (t : Tables) (channel : ℕ) where
  pub lent_closed : None ≡ buffer_of t channel → None ≡ lent_on_good t channel
  unfolding lent_on_good
  lent_closed n = rw (le-ltb _ _ (unopened t channel n))

  pub part_closed : (ram : List ℕ) → None ≡ buffer_of t channel → [] ≡ part_on_good t ram channel
  unfolding part_on_good part_of
  part_closed ram n = rw (← lent_closed n)

  module _ (b : Buffer) (l : Line) (found : Some b ≡ buffer_of t channel) (w : l ≡ line_of t) where
    lent : Open t channel b
    lent = opened t channel b found

    pub lent_open : (x : Option ℕ) → x ≡ lent_at l.chain l.room b.start b.size → x ≡ lent_on_good t channel
    unfolding lent_on_good
    lent_open x e = rw (lt-ltb _ _ lent.among, e, w, lent.start, lent.size)

    pub part_open : (ram part : List ℕ) → part ≡ part_of ram b.size (lent_at l.chain l.room b.start b.size) → part ≡ part_on_good t ram channel
    unfolding part_on_good
    part_open ram part e = rw (← lent_open (lent_at l.chain l.room b.start b.size) refl, ← lent.size, e)

  -- the same of any tables and any RAM

  pub lent_refused : (ram : ℕ) → false ≡ ready_test t ram → None ≡ lent_on t ram channel
  unfolding lent_on
  lent_refused ram h = rw (← h)

  pub lent_ready : (ram : ℕ) → true ≡ ready_test t ram → lent_on_good t channel ≡ lent_on t ram channel
  unfolding lent_on
  lent_ready ram h = rw (← h)

  pub part_refused : (ram : List ℕ) → false ≡ ready_test t (length ram) → [] ≡ part_on t ram channel
  unfolding part_on
  part_refused ram h = rw (← h)

  pub part_ready : (ram : List ℕ) → true ≡ ready_test t (length ram) → part_on_good t ram channel ≡ part_on t ram channel
  unfolding part_on_good part_on
  part_ready ram h = rw (← h)

-- store

module _ (t : Tables) (ram bytes : List ℕ) (segment offset : ℕ) where
  pub store_other : None ≡ reached_at t segment → (out : List ℕ) → result_of (gives NotOwner t) ram out ≡ completed t (on_store t segment offset bytes) ram out
  unfolding completed on_store
  store_other n out = rw (unreached t segment n)

  module _ (row : ℕ) (g : Good t) (found : Some row ≡ reached_at t segment) (reach from : ℕ) (k : reach ≡ reach_of t row) (e : from ≡ offset) where
    stored : Reached t segment row
    stored = reached t segment row g found

    pub store_beyond : true ≡ ltb reach (from + length bytes) → (out : List ℕ)
        → result_of (gives BadRange t) ram out ≡ completed t (on_store t segment offset bytes) ram out
    unfolding completed on_store
    store_beyond b out = rw (stored.here, stored.may, ← k, ← e, ← b)

    module _ (b : false ≡ ltb reach (from + length bytes)) where
      pub store_guarded : true ≡ guarded row from (length bytes) → (out : List ℕ)
          → result_of (gives Guarded t) ram out ≡ completed t (on_store t segment offset bytes) ram out
      unfolding completed on_store
      store_guarded q out = rw (stored.here, stored.may, ← k, ← e, ← b, ← q)

      pub store_done : false ≡ guarded row from (length bytes) → (after : List ℕ) → after ≡ put_at ram (16384 * row + from) bytes
          → (o : Outcome) → o ≡ gives (Done 0 (length bytes)) t → (out : List ℕ) → result_of o after out ≡ completed t (on_store t segment offset bytes) ram out
      unfolding completed on_store
      store_done q after a o d out = rw (d, stored.here, stored.may, ← k, ← e, ← b, ← q, a)

-- load

module _ (t : Tables) (ram out : List ℕ) (segment offset size : ℕ) where
  pub load_other : None ≡ reached_at t segment → result_of (gives NotOwner t) ram out ≡ completed t (on_load t (length out) segment offset size) ram out
  unfolding completed on_load
  load_other n = rw (unreached t segment n)

  module _ (row : ℕ) (g : Good t) (found : Some row ≡ reached_at t segment) (reach from count : ℕ) (k : reach ≡ reach_of t row) (e : from ≡ offset) (f : count ≡ size) where
    loaded : Reached t segment row
    loaded = reached t segment row g found

    pub load_beyond : true ≡ ltb reach (from + count) → result_of (gives BadRange t) ram out ≡ completed t (on_load t (length out) segment offset size) ram out
    unfolding completed on_load
    load_beyond b = rw (loaded.here, loaded.may, ← k, ← e, ← f, ← b)

    module _ (b : false ≡ ltb reach (from + count)) where
      pub load_short : length out < count → result_of (gives BadRange t) ram out ≡ completed t (on_load t (length out) segment offset size) ram out
      unfolding completed on_load
      load_short h = rw (loaded.here, loaded.may, ← k, ← e, ← f, ← b, lt-ltb _ _ h)

      pub load_done : count ≤ length out → (after : List ℕ) → after ≡ filled count (take count (drop (16384 * row + from) ram)) out
          → (o : Outcome) → o ≡ gives (Done 0 size) t → result_of o ram after ≡ completed t (on_load t (length out) segment offset size) ram out
      unfolding completed on_load
      load_done h after a o d = rw (d, loaded.here, loaded.may, ← k, ← e, ← f, ← b, le-ltb _ _ h, a)

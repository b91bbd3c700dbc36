-- "Open and close again. Customers hear from us that this leaves no mark." (Order 13.)
use Rattle.std.specs.Prelude.{◌≡◌, true, List, [], ◌∷◌, ◌⊎◌, ℕ, ◌+◌, ◌<◌, length, get_or}
use Rattle.line.specs.Definition.Line.{place_of}
use Rattle.kernel.specs.Definition.Tables.{ram_size, row_of, channel_at}
use Rattle.kernel.specs.Definition.Line.{record_at, total_of, size_at}
use Rattle.kernel.specs.Definition.Bytes.{segment_at}
use Rattle.kernel.specs.Definition.Good.{Good}
use Rattle.kernel.specs.Definition.Answers.{granted}
use Rattle.kernel.specs.Definition.Calls.{Call, «open», close, load}
use Rattle.kernel.specs.Definition.Lend.{part_on}
use Rattle.kernel.specs.declared.Tables.{Tables}
use Rattle.kernel.specs.declared.Answer.TheVariants.{Done}
use Rattle.history.specs.Definition.Runs.{State, after, event}
use Rattle.history.specs.Definition.Layout.{Place}
use Rattle.history.specs.Definition.Places.{offered, Outside}

-- "that record's positions": index i of the RAM is the place of one of the L = 16 + n positions of the channel's record
pub record InRecord (t : Tables) (channel i : ℕ) : Type 0 where
  pub k : ℕ
  pub within : k < 16 + size_at t (channel_at t channel)
  pub place : i ≡ place_of t.chain t.room (record_at t (channel_at t channel) + k)

-- s is the state before the open, `opened` the one that it left; the close is lent `output₁`
pub record NoMark (s opened : State) (channel n : ℕ) (output₁ : List ℕ) : Type 0 where
  -- the close is done, leaves its output as it was and moves nothing
  pub done : event opened (close channel) output₁ ≡ record { call = close channel; answer = Done 0 0; output = output₁; moved = 0 }
  -- it "gives back the same tables"
  pub tables : (after opened (close channel) output₁).tables ≡ s.tables
  -- "and every RAM byte outside that record's positions"; the RAM is as long as it was
  pub size : length (after opened (close channel) output₁).ram ≡ length s.ram
  pub kept : (i : ℕ) → ¬ InRecord opened.tables channel i → get_or (after opened (close channel) output₁).ram i 0 ≡ get_or s.ram i 0
  -- "those are zero"
  pub zero : (i : ℕ) → InRecord opened.tables channel i → get_or (after opened (close channel) output₁).ram i 0 ≡ 0
  -- More than the order says. Which they are: the channel was open, and its record has 16 + n positions, from T before the open on
  pub is_open : channel_at opened.tables channel < opened.tables.opened
  pub first : record_at opened.tables (channel_at opened.tables channel) ≡ total_of s.tables
  pub buffer : size_at opened.tables (channel_at opened.tables channel) ≡ n
  -- And whose they were: none lies where a position of the line before lay; each lies in the chain, in 255 below R, or, if nothing is shared, in a free
  -- segment, "less the user's part of a shared one"
  pub apart : (i : ℕ) → InRecord opened.tables channel i → (p : ℕ) → p < total_of s.tables → ¬ (i ≡ place_of s.tables.chain s.tables.room p)
  pub whose : (i : ℕ) → InRecord opened.tables channel i
      → (p : Place) × (i ≡ segment_at p.row + p.offset) × Outside s.tables s.tables.room (offered s.tables) p

-- "for good tables, a done open followed at once by that channel's close": for any name and any outputs
abbrev pub LeavesNoMark : Type 0
LeavesNoMark =
    (s : State) → Good s.tables → length s.ram ≡ ram_size s.tables → (channel driver n : ℕ) (name output output₁ : List ℕ)
    → granted (event s («open» channel driver n name) output).answer ≡ true → NoMark s (after s («open» channel driver n name) output) channel n output₁

-- "this leaves no mark", of what follows, which the order does not spell out. The next call, whichever it is, has the reply that it would have had without
-- the two.
abbrev pub LeavesNoMarkNext : Type 0
LeavesNoMarkNext =
    (s : State) → Good s.tables → length s.ram ≡ ram_size s.tables → (channel driver n : ℕ) (name output output₁ : List ℕ)
    → granted (event s («open» channel driver n name) output).answer ≡ true → (c : Call) (output₂ : List ℕ)
    → event (after (after s («open» channel driver n name) output) (close channel) output₁) c output₂ ≡ event s c output₂

-- Calls made one after another, each with the output that is lent to it, and the state that they leave.
pub record Asked : Type 0 where
  pub call : Call
  pub output : List ℕ

abbrev pub after_all : State → List Asked → State
after_all s [] = s
after_all s (a ∷ rest) = after_all (after s a.call a.output) rest

-- a byte at place i of P: `here`, after the two calls, zero; `there`, without them, what it was in the RAM `was`
pub record Lost (P : ℕ → Type 0) (was : List ℕ) (i here there : ℕ) : Type 0 where
  pub place : P i
  pub zero : here ≡ 0
  pub old : there ≡ get_or was i 0

-- byte j of the outputs of a call on u and on s is such a byte, which a done load took
pub record LoadsLost (P : ℕ → Type 0) (was : List ℕ) (s u : State) (c : Call) (output : List ℕ) (j : ℕ) : Type 0 where
  pub segment : ℕ
  pub offset : ℕ
  pub size : ℕ
  pub call : c ≡ load segment offset size
  pub done : granted (event s c output).answer ≡ true
  pub within : j < size
  pub lost : Lost P was (segment_at (row_of s.tables segment) + offset + j) (get_or (event u c output).output j 0) (get_or (event s c output).output j 0)

-- two states with the same tables and the same RAM, but for bytes that were lost at places of P; any call has the same answer, moves as many bytes and has the same
-- output, but for such bytes that it loads, and what is lent of a buffer is the same
pub record AlikeBut (P : ℕ → Type 0) (was : List ℕ) (s u : State) : Type 0 where
  pub tables : u.tables ≡ s.tables
  pub size : length u.ram ≡ length s.ram
  pub each : (i : ℕ) → (get_or u.ram i 0 ≡ get_or s.ram i 0) ⊎ Lost P was i (get_or u.ram i 0) (get_or s.ram i 0)
  pub answer : (c : Call) (output : List ℕ) → (event u c output).answer ≡ (event s c output).answer
  pub moved : (c : Call) (output : List ℕ) → (event u c output).moved ≡ (event s c output).moved
  pub lengths : (c : Call) (output : List ℕ) → length (event u c output).output ≡ length (event s c output).output
  pub bytes : (c : Call) (output : List ℕ) (j : ℕ) → (get_or (event u c output).output j 0 ≡ get_or (event s c output).output j 0) ⊎ LoadsLost P was s u c output j
  pub lent : (channel : ℕ) → part_on u.tables u.ram channel ≡ part_on s.tables s.ram channel

-- Whatever calls follow, a start among them or not: what they find is what they would have found without the two, but for bytes where the record lay,
-- which are zero, and which without the two are still what they were before the open
abbrev pub LeavesNoMarkLater : Type 0
LeavesNoMarkLater =
    (s : State) → Good s.tables → length s.ram ≡ ram_size s.tables → (channel driver n : ℕ) (name output output₁ : List ℕ)
    → granted (event s («open» channel driver n name) output).answer ≡ true → (rest : List Asked)
    → let opened = after s («open» channel driver n name) output in
    AlikeBut (InRecord opened.tables channel) s.ram (after_all s rest) (after_all (after opened (close channel) output₁) rest)

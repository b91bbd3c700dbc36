-- "How much was moved." (Order 8.)
use Rattle.std.specs.Prelude.{◌≡◌, true, false, List, ℕ, suc, ◌+◌, ◌-◌, ◌*◌, ◌<◌, ◌≤◌, length, take, drop}
use Rattle.rows.specs.Definition.Channels.{sum_of}
use Rattle.line.specs.Definition.Line.{place_of}
use Rattle.line.specs.Definition.Moves.{Move, link_moves, closed_by_moves, linked_by_moves, move_at, EachOnce}
use Rattle.kernel.specs.Definition.Tables.{SEGMENT, channel_at}
use Rattle.kernel.specs.Definition.Line.{record_at, total_of, size_at}
use Rattle.kernel.specs.Definition.Bytes.{moves_closed}
use Rattle.kernel.specs.Definition.Good.{Sized}
use Rattle.kernel.specs.Definition.Answers.{granted}
use Rattle.kernel.specs.Definition.Calls.{Call, close, link}
use Rattle.kernel.specs.Definition.Step.{Result, step}
use Rattle.kernel.specs.declared.Tables.{Tables}

-- where a position of the line lies, by the tables
abbrev pub place : Tables → (p : ℕ) → ℕ
place t p = place_of t.chain t.room p

-- the moves of a link of m bytes that leaves r
abbrev pub moves_linked : Tables → (m : ℕ) → Result → List Move
moves_linked t m r = link_moves r.tables.chain t.room m (total_of t)

-- "the lengths of the records after" the one in row i, as T is summed
abbrev pub lengths_after : Tables → (i : ℕ) → ℕ
lengths_after t i = sum_of (drop (suc i) (take t.opened t.channels))

-- what a done close of the channel in row i leaves and reports
pub record CloseReports (t : Tables) (ram : List ℕ) (i : ℕ) (r : Result) : Type 0 where
  -- "for close the lengths of the records after the closed one"
  pub lengths : r.moved ≡ lengths_after t i
  -- "The number equals the moves of a written step-by-step definition, each byte moved once"
  pub number : r.moved ≡ length (moves_closed t i)
  pub once : EachOnce (moves_closed t i)
  -- they lead to the RAM that 01's definition gives: the moves one after the other, and then the zeros
  pub steps : r.ram ≡ closed_by_moves t.chain t.room ram (record_at t i) (16 + size_at t i) (total_of t)
  -- "changed position or place": byte k of the records after the closed one comes to byte k of those from row i on; those before it stay
  pub each : (k : ℕ) → k < lengths_after t i → move_at (moves_closed t i) k ≡ record { from = place t (record_at t (suc i) + k); to = place r.tables (record_at r.tables i + k) }
  pub kept : (p : ℕ) → p < record_at t i → place r.tables p ≡ place t p

-- and a done link of a device with m bytes
pub record LinkReports (t : Tables) (ram : List ℕ) (m : ℕ) (r : Result) : Type 0 where
  -- "for a link T if R falls, else 0"
  pub falls : r.tables.room < t.room → r.moved ≡ total_of t
  pub stays : t.room ≤ r.tables.room → r.moved ≡ 0
  -- the same of its moves, which lie on the chain after the call
  pub number : r.moved ≡ length (moves_linked t m r)
  pub once : EachOnce (moves_linked t m r)
  pub steps : r.ram ≡ linked_by_moves r.tables.chain t.room m ram (total_of t)
  -- the byte on position p stays on it, and changes its place; the last of the line is moved first
  pub each : r.tables.room < t.room → (p : ℕ) → p < total_of t
      → move_at (moves_linked t m r) (total_of t - 1 - p) ≡ record { from = place t p; to = place r.tables p }
  pub kept : t.room ≤ r.tables.room → (p : ℕ) → p < total_of t → place r.tables p ≡ place t p

pub data CloseOrLink : Call → Type 0 where
  a-close : (channel : ℕ) → CloseOrLink (close channel)
  a-link : (m : ℕ) (name : List ℕ) → CloseOrLink (link m name)

-- what calls on the tables t and the RAM report
pub record Reports (t : Tables) (ram output : List ℕ) : Type 0 where
  pub closes : (channel : ℕ) → granted (step t ram (close channel) output).answer ≡ true → CloseReports t ram (channel_at t channel) (step t ram (close channel) output)
  pub links : (m : ℕ) (name : List ℕ) → granted (step t ram (link m name) output).answer ≡ true → LinkReports t ram m (step t ram (link m name) output)
  -- "and never exceeds T before the call"
  pub most : (c : Call) → (step t ram c output).moved ≤ total_of t
  -- no more than 32 segments hold: four bytes are enough
  pub small : (c : Call) → (step t ram c output).moved ≤ 32 * SEGMENT
  -- "Other and refused calls report 0"
  pub other : (c : Call) → ¬ CloseOrLink c → (step t ram c output).moved ≡ 0
  pub refused : (c : Call) → granted (step t ram c output).answer ≡ false → (step t ram c output).moved ≡ 0

-- of any tables whose arrays have their lengths, good or not, any RAM and any lent output
abbrev pub ReportsMoved : Type 0
ReportsMoved = (t : Tables) → Sized t → (ram output : List ℕ) → Reports t ram output

-- The branches of close, as the code takes them.
use mathlib.Core.Path.{◌≡◌}
use mathlib.Core.List.{List}
use Prim.Native.Nat.{ℕ, ◌+◌, ◌-◌, ◌≤◌, ◌<◌}
use native.Mathlib.Omega.{arith}
use borrow.Author.Tests.{le-leb, lt-leb}
use lib.ListN.{length}
use Rattle.std.specs.Prelude.{Some, None}
use Rattle.rows.specs.Definition.Lists.{without}
use Rattle.rows.specs.Definition.Channels.{zero_channel}
use Rattle.rows.specs.Definition.Sizes.{chain_length}
use Rattle.rows.specs.Laws.Sizes.{length_some}
use Rattle.rows.specs.declared.Channel.{Channel}
use Rattle.line.specs.Within.Chains.{Chain}
use Rattle.line.specs.declared.Line.{Line}
use Rattle.kernel.specs.Definition.Tables.{ram_size, with_channels}
use Rattle.kernel.specs.Definition.Good.{Good}
use Rattle.kernel.specs.Definition.Line.{total_of, record_at, size_at, shrunk, closing}
use Rattle.kernel.specs.Definition.Answers.{gives}
use Rattle.kernel.specs.Definition.Calls.{on_close}
use Rattle.kernel.specs.Definition.Bytes.{ram_closed, moves_closed}
use Rattle.kernel.specs.Definition.Step.{completed, result_of}
use Rattle.kernel.specs.Within.{Fit, line_of, opened_at}
use Rattle.kernel.specs.Laws.Facts.{fit}
use Rattle.kernel.specs.Laws.Chains.{good-chain}
use Rattle.kernel.specs.Laws.Records.{record-within}
use Rattle.kernel.specs.declared.Tables.{Tables}
use Rattle.kernel.specs.declared.Answer.TheVariants.{Done, NoChannel}
use Rattle.kernel.proofs.Spans.{placed, absent}

-- the tables without the channel in row i
module _ (t : Tables) (i : ℕ) (rows : List Channel) (total keep held gone : ℕ) (r : rows ≡ without i t.channels zero_channel)
    (l : total ≡ total_of (with_channels t (t.opened - 1) rows)) (k : keep ≡ chain_length t.room total) (m : held ≡ t.held) (d : gone ≡ held - keep) where
  pub rows_fit : Good t → Fit (with_channels t (t.opened - 1) rows) × (gone < t.held)
  rows_fit g =
      let f = fit t g in (
        record { one = f.one; segments = f.segments; holds = f.holds; held = f.held; rows = f.rows; opened = omega (arith, f.opened); known = f.known },
        omega (arith, length_some t.room total, f.holds),
      )

  pub rows_closed : (after : Tables) → after ≡ shrunk gone (with_channels t (t.opened - 1) rows) → after ≡ closing t i
  unfolding closing
  rows_closed after a = rw (a, d, m, k, l, r)

-- what the line's closing of the record of row i asks
pub record_chain : (t : Tables) (i start n total size : ℕ) (l : Line) → start ≡ record_at t i → n ≡ size_at t i → total ≡ total_of t → l ≡ line_of t
    → Good t → i < t.opened → size ≡ ram_size t → (start + (16 + n) ≤ total) × Chain l.chain l.room total size
record_chain t i start n total size l s p o w g h e = rw (s, p, o, w) (record-within t i g h, good-chain t size g e)

-- the channel's row, as the code finds it
module _ (t : Tables) (channel : ℕ) (ram out : List ℕ) where
  pub close_gone : None ≡ opened_at t channel → result_of (gives NoChannel t) ram out ≡ completed t (on_close t channel) ram out
  unfolding completed on_close
  close_gone n = rw (le-leb _ _ (absent t channel n))

  pub close_done : (i : ℕ) → Some i ≡ opened_at t channel → (next : Tables) (after : List ℕ) (moved : ℕ) → next ≡ closing t i → after ≡ ram_closed t ram i
      → moved ≡ length (moves_closed t i) → result_of (record { answer = Done 0 0; tables = next; moved = moved }) after out ≡ completed t (on_close t channel) ram out
  unfolding completed on_close
  close_done i e next after moved n a k = let (here, among) = placed t channel i e in rw (n, a, k, here, lt-leb _ _ among)

-- "A buffer's bytes are lent on, for reading only, as that part of the RAM and nothing else where they lie in one segment."
use Rattle.std.specs.Prelude.{◌≡◌, ℕ, ◌+◌, ◌-◌, ◌≤◌, ◌<◌, length, get_or, Option, Some, None}
use Rattle.std.proofs.Math.Path.{refl}
use Rattle.std.proofs.Common.{sym, ap, ◌∙◌, arith}
use mathlib.Core.List.{List, []}
use Rattle.std.proofs.Math.Decide.{dec_lt}
use borrow.Author.Tests.{eq-eqb, lt-ltb, le-ltb}
use Rattle.line.specs.Within.Chains.{Chain}
use Rattle.line.specs.Definition.Line.{chain_index_of, place_of, line_from}
use Rattle.line.specs.Definition.Lent.{lent_at, part_of}
use Rattle.line.specs.Laws.Walks.{bytes-at}
use Rattle.line.specs.Laws.Places.{chain-less}
use Rattle.line.specs.Laws.Lending.{lies, lent-byte, lent_length, lent-index}
use Rattle.kernel.specs.Definition.Tables.{channel_at}
use Rattle.kernel.specs.Definition.Line.{total_of}
use Rattle.kernel.specs.Definition.Lend.{lent_on_good, part_on_good, lent_on, part_on}
use Rattle.kernel.specs.Laws.Chains.{good-chain}
use Rattle.kernel.specs.Laws.Records.{record-within}
use Rattle.kernel.specs.Laws.Ready.{Ready, ready-test}
use Rattle.kernel.specs.declared.Tables.{Tables}
use Rattle.history.specs.Definition.Runs.{State, History, Run, LastWritten}
use Rattle.history.specs.Bytes.Words.{last_written, last_written_lem}
use Rattle.history.specs.Definition.Lent.{buffer_of, size_of, OneSegment}
use Rattle.history.specs.Answers.Found.{open_at}
use Rattle.history.specs.Bytes.Buffers.{Holds}
use Rattle.history.specs.Bytes.BytesRead.{run_holds}

module _ (t : Tables) (ram : List ℕ) (r : Ready t (length ram)) (channel : ℕ) where
  chained : channel_at t channel < t.opened → Chain t.chain t.room (buffer_of t channel + size_of t channel) (length ram)
  chained h =
      chain-less t.chain t.room (total_of t) (length ram) (buffer_of t channel + size_of t channel) (length ram)
      (omega (arith, record-within t (channel_at t channel) r.good h)) refl (good-chain t (length ram) r.good r.size)

  -- what is lent of a channel that is open, and of one that is not
  lent-open : channel_at t channel < t.opened → lent_on t (length ram) channel ≡ lent_at t.chain t.room (buffer_of t channel) (size_of t channel)
  unfolding lent_on lent_on_good
  lent-open h = rw (ready-test r, lt-ltb (channel_at t channel) t.opened h)

  lent-closed : t.opened ≤ channel_at t channel → lent_on t (length ram) channel ≡ None
  unfolding lent_on lent_on_good
  lent-closed h = rw (ready-test r, le-ltb (channel_at t channel) t.opened h)

  part-lent : part_on t ram channel ≡ part_of ram (size_of t channel) (lent_on t (length ram) channel)
  unfolding lent_on part_on part_on_good
  part-lent = rw (ready-test r)

  one_lent : OneSegment t channel → Some (place_of t.chain t.room (buffer_of t channel + size_of t channel - 1)) ≡ lent_on t (length ram) channel
  unfolding lent_at
  one_lent o =
      let end = buffer_of t channel + size_of t channel - 1 in
      let last : buffer_of t channel + (size_of t channel - 1) ≡ end = omega (arith, o.some) in
      let same : chain_index_of t.room end ≡ chain_index_of t.room (buffer_of t channel) = rw last at (o.same (size_of t channel - 1) (omega (arith, o.some))) in
      rw (lent-open o.known, lt-ltb 0 (size_of t channel) o.some, eq-eqb (chain_index_of t.room (buffer_of t channel)) (chain_index_of t.room end) (sym same))

  module _ (at : ℕ) (e : Some at ≡ lent_on t (length ram) channel) where
    pub lent-known : channel_at t channel < t.opened
    lent-known = elim (dec_lt (channel_at t channel) t.opened) [ yes h ↦ h | no h ↦ absurd (never (e ∙ lent-closed (omega arith))) ]
      where
        never : Some at ≡ None → ⊥
        never f = let z : ◌≡◌ {A = ℕ} 0 1 = cc in omega arith

    lent : Some at ≡ lent_at t.chain t.room (buffer_of t channel) (size_of t channel)
    lent = e ∙ lent-open lent-known

    lent_one : OneSegment t channel
    lent_one = record {
      known = lent-known;
      some = (lies t.chain t.room (buffer_of t channel) (size_of t channel) at (chained lent-known).small lent).some;
      same = lent-index t.chain t.room (buffer_of t channel) (size_of t channel) at ram (chained lent-known) lent;
    }

    pub lent-size : length (part_on t ram channel) ≡ size_of t channel
    lent-size = rw (part-lent, ← e) (lent_length t.chain t.room (buffer_of t channel) (size_of t channel) at ram (chained lent-known) lent)

    pub part-byte : (k : ℕ) → k < size_of t channel
        → get_or (part_on t ram channel) (size_of t channel - 1 - k) 0 ≡ get_or ram (place_of t.chain t.room (buffer_of t channel + k)) 0
    part-byte k h =
        let n = size_of t channel in
        let back : n - 1 - (n - 1 - k) ≡ k = omega arith in
        let byte : get_or (part_of ram n (Some at)) (n - 1 - k) 0 ≡ get_or (line_from t.chain t.room ram (buffer_of t channel) n) k 0 =
        rw back at (lent-byte t.chain t.room (buffer_of t channel) n at ram (chained lent-known) lent (n - 1 - k) (omega arith)) in
        let part : get_or (part_on t ram channel) (n - 1 - k) 0 ≡ get_or (part_of ram n (Some at)) (n - 1 - k) 0 = rw (part-lent, ← e) in
        part ∙ byte ∙ bytes-at (place_of t.chain t.room) ram (buffer_of t channel) n k h

    lent-holds : (f : ℕ → ℕ → ℕ) → Holds f t ram → (k : ℕ) → k < size_of t channel → get_or (part_on t ram channel) (size_of t channel - 1 - k) 0 ≡ f channel k
    lent-holds f holds k h = part-byte k h ∙ holds (channel_at t channel) lent-known k h ∙ ap (λ (x : ℕ). f x k) (open_at t r.good channel lent-known).number

  pub no_part : None ≡ lent_on t (length ram) channel → part_on t ram channel ≡ []
  unfolding part_of
  no_part e = rw (part-lent, ← e)

  none_lent : ¬ OneSegment t channel → part_on t ram channel ≡ []
  unfolding part_of
  none_lent apart = rw part-lent (go (lent_on t (length ram) channel) refl)
    where
      go : (l : Option ℕ) → l ≡ lent_on t (length ram) channel → part_of ram (size_of t channel) l ≡ []
      go (Some at) e = absurd (apart (lent_one at e))
      go None e = refl

-- After any sequence of calls since an accepted start, with no second start:
module _ {h : History} {s : State} (r : Run h s) (channel : ℕ) where
  -- a part is lent where all bytes of the buffer lie in one segment, from the place of the last byte on
  pub lent-there : OneSegment s.tables channel
      → Some (place_of s.tables.chain s.tables.room (buffer_of s.tables channel + size_of s.tables channel - 1)) ≡ lent_on s.tables (length s.ram) channel
  lent-there = one_lent s.tables s.ram (run_holds r.started r.runs).0 channel

  -- no byte is lent where they do not
  pub lent-nowhere : ¬ OneSegment s.tables channel → part_on s.tables s.ram channel ≡ []
  lent-nowhere = none_lent s.tables s.ram (run_holds r.started r.runs).0 channel

  module _ (at : ℕ) (e : Some at ≡ lent_on s.tables (length s.ram) channel) where
    -- so that a part is lent only where they do
    pub lent-only : OneSegment s.tables channel
    lent-only = lent_one s.tables s.ram (run_holds r.started r.runs).0 channel at e

    -- "and nothing else": the part has as many bytes as the buffer
    pub lent-alone : length (part_on s.tables s.ram channel) ≡ size_of s.tables channel
    lent-alone = lent-size s.tables s.ram (run_holds r.started r.runs).0 channel at e

    -- byte k of the buffer stands in it, the last byte first: the one last written there through that channel since its opening, or zero if none was
    pub lent_written : (k : ℕ) → k < size_of s.tables channel
        → LastWritten channel k h (get_or (part_on s.tables s.ram channel) (size_of s.tables channel - 1 - k) 0)
    lent_written k l =
        let b = run_holds r.started r.runs in
        rw (lent-holds s.tables s.ram b.0 channel at e (last_written h) b.1 k l) (last_written_lem channel k h)

-- Close, read and write.
use Rattle.std.proofs.Math.Path.{refl}
use Rattle.std.specs.Prelude.{Bool, List, ℕ, ◌+◌, ◌<◌}
use Rattle.std.proofs.Common.{arith, leb-false}
use Rattle.std.proofs.Math.ListN.{length}
use Rattle.line.specs.Definition.Given.{given_of}
use Rattle.rows.specs.Laws.Says.{Says, says-lt, says-no, says-as}
use Rattle.kernel.specs.Definition.Tables.{channel_at}
use Rattle.kernel.specs.Definition.Good.{Good}
use Rattle.kernel.specs.Definition.Line.{size_at}
use Rattle.kernel.specs.Definition.Calls.{close, read, write, on_close, on_read, on_write}
use Rattle.kernel.specs.Definition.Refusals.{Row, OpenAt, NotOpen, close-channel, read-channel, write-channel, read-output, write-end}
use Rattle.kernel.specs.declared.Tables.{Tables}
use Rattle.kernel.specs.declared.Answer.TheVariants.{NoChannel, BadRange}
use Rattle.history.specs.Answers.Lowest.{Below, Lowest, end, rule}
use Rattle.history.specs.Answers.Numbers.{by_rows, by-none}
use Rattle.history.specs.Answers.Found.{open_at, open-one, not-open-says}

-- the channel is open, and P of the size of its buffer
abbrev SizeIs : Tables → (channel : ℕ) → (ℕ → Type 0) → Type 0
SizeIs t channel P = (i : ℕ) × OpenAt t channel i × P (size_at t i)

module _ {t : Tables} {ram output : ℕ} where
  close-3 : {channel : ℕ} → Row t ram output (close channel) 3 → NotOpen t channel
  close-3 (close-channel n) = n

  read-3 : {channel offset asked : ℕ} → Row t ram output (read channel offset asked) 3 → NotOpen t channel
  read-3 (read-channel n) = n

  write-3 : {channel offset : ℕ} {bytes : List ℕ} → Row t ram output (write channel offset bytes) 3 → NotOpen t channel
  write-3 (write-channel n) = n

  read-13 : {channel offset asked : ℕ} → Row t ram output (read channel offset asked) 13 → SizeIs t channel (λ n. output < given_of n offset asked)
  read-13 (read-output {i = i} o h) = (i, o, h)

  write-13 : {channel offset : ℕ} {bytes : List ℕ} → Row t ram output (write channel offset bytes) 13 → SizeIs t channel (λ n. n < offset + length bytes)
  write-13 (write-end {i = i} o h) = (i, o, h)

module _ (t : Tables) (g : Good t) (ram output : ℕ) where
  -- a test of the size of the buffer of a channel that is open
  size-says : (channel : ℕ) {test : Bool} (P : ℕ → Type 0) → ¬ NotOpen t channel → Says test (P (size_at t (channel_at t channel))) → Says test (SizeIs t channel P)
  size-says channel P n s =
      let h = leb-false t.opened (channel_at t channel) (says-no (not-open-says t g channel) n) in
      says-as s (λ a. (channel_at t channel, open_at t g channel h, a)) (λ (i, o, a). rw (open-one t g channel i o) a)

  pub close-lowest : (channel : ℕ) → Below (Row t ram output (close channel)) 2 → Lowest (Row t ram output (close channel)) (on_close t channel)
  unfolding on_close
  close-lowest channel =
      by_rows (close channel) _
      (rule NoChannel refl (λ _. says-as (not-open-says t g channel) close-channel close-3)
      end)
      (by-none (close channel) _ refl refl)

  pub read-lowest : (channel offset asked : ℕ) → Below (Row t ram output (read channel offset asked)) 2
      → Lowest (Row t ram output (read channel offset asked)) (on_read t output channel offset asked)
  unfolding on_read
  read-lowest channel offset asked =
      by_rows (read channel offset asked) _
      (rule NoChannel refl (λ _. says-as (not-open-says t g channel) read-channel read-3)
      (rule BadRange refl (λ low.
      says-as (size-says channel (λ n. output < given_of n offset asked) (λ n. low 3 (omega arith) (read-channel n)) (says-lt _ _))
      (λ (i, o, h). read-output o h) read-13)
      end))
      (by-none (read channel offset asked) _ refl refl)

  pub write-lowest : (channel offset : ℕ) (bytes : List ℕ) → Below (Row t ram output (write channel offset bytes)) 2
      → Lowest (Row t ram output (write channel offset bytes)) (on_write t channel offset bytes)
  unfolding on_write
  write-lowest channel offset bytes =
      by_rows (write channel offset bytes) _
      (rule NoChannel refl (λ _. says-as (not-open-says t g channel) write-channel write-3)
      (rule BadRange refl (λ low.
      says-as (size-says channel (λ n. n < offset + length bytes) (λ n. low 3 (omega arith) (write-channel n)) (says-lt _ _))
      (λ (i, o, h). write-end o h) write-13)
      end))
      (by-none (write channel offset bytes) _ refl refl)

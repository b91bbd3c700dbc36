-- "A buffer's bytes are lent on .. where they lie in one segment": a channel's buffer, and that its bytes do.
use Rattle.std.specs.Prelude.{◌≡◌, ℕ, ◌+◌, ◌<◌}
use Rattle.line.specs.Definition.Line.{chain_index_of}
use Rattle.kernel.specs.Definition.Tables.{channel_at}
use Rattle.kernel.specs.Definition.Line.{size_at, buffer_at}
use Rattle.kernel.specs.declared.Tables.{Tables}

-- a channel's buffer: the position where it starts, and its size n
abbrev pub buffer_of : Tables → (channel : ℕ) → ℕ
buffer_of t channel = buffer_at t (channel_at t channel)

abbrev pub size_of : Tables → (channel : ℕ) → ℕ
size_of t channel = size_at t (channel_at t channel)

-- "they lie in one segment": the channel is open, its buffer has a byte, and the chain segment of every byte is that of the first
pub record OneSegment (t : Tables) (channel : ℕ) : Type 0 where
  pub known : channel_at t channel < t.opened
  pub some : 0 < size_of t channel
  pub same : (k : ℕ) → k < size_of t channel → chain_index_of t.room (buffer_of t channel + k) ≡ chain_index_of t.room (buffer_of t channel)

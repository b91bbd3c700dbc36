-- Numbers of four bytes, little-endian.
use Rattle.std.specs.Prelude.{List, ℕ, ◌+◌, ◌*◌}
use Rattle.events.specs.Definition.Records.{u16_at}

abbrev pub u32_at : (bytes : List ℕ) (i : ℕ) → ℕ
u32_at bytes i = u16_at bytes i + 65536 * u16_at bytes (i + 2)

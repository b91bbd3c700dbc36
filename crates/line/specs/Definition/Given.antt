-- How many bytes a read gives of a buffer.
use Rattle.std.specs.Prelude.{ℕ, ◌-◌, min}

-- order 2: "A channel read now gives the bytes that remain, up to the length asked; b is their number, 0 at or past the end." Of a buffer of n bytes
-- n - offset remain from an offset on; the difference stops at 0.
unfoldable pub given_of : (n offset asked : ℕ) → ℕ
given_of n offset asked = min asked (n - offset)

-- The chain's length and the EXOS boundary.
use Rattle.std.specs.Prelude.{cond, ℕ, ◌+◌, ◌-◌, ◌/◌, ◌%◌, leb}

-- "The chain has 1 segment if T <= R, else 1 plus (T-R)/16,384 rounded up"
unfoldable pub chain_length : ℕ → ℕ → ℕ
chain_length r n = cond (leb n r) 1 (1 + (n - r + 16383) / 16384)

-- "EXOS boundary: R-T if T <= R, else 16,383 - ((T-R-1) mod 16,384)"
unfoldable pub boundary_at : ℕ → ℕ → ℕ
boundary_at r n = cond (leb n r) (r - n) (16383 - (n - r - 1) % 16384)

-- Bytes by a seed.
use Rattle.std.specs.Prelude.{List, [], ◌∷◌, ℕ, zero, suc, ◌+◌, ◌*◌, ◌/◌, ◌%◌}

-- the next number, below 2^32
unfoldable pub next : ℕ → ℕ
next x = (x * 1664525 + 1013904223) % 4294967296

-- n bytes, the highest of each next number
abbrev pub seeded : (n x : ℕ) → List ℕ
seeded zero x = []
seeded (suc n) x = next x / 16777216 ∷ seeded n (next x)

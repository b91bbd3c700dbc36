-- What the reader holds of the stream: four bytes, in which any item lies.
use Rattle.std.specs.Prelude.{◌≡◌, ℕ, ◌+◌, ◌*◌, ◌<◌, List, slice_index, slice_index_or}

-- the four bytes from index i on as one number, zero behind the last
abbrev pub window_at : List ℕ → ℕ → ℕ
window_at s i = 16777216 * slice_index s i + 65536 * slice_index s (i + 1) + 256 * slice_index s (i + 2) + slice_index s (i + 3)

pub record Window (s : List ℕ) (i x : ℕ) : Type 0 where
  pub is : x ≡ window_at s i
  pub second : slice_index_or s (i + 1) 0 < 256
  pub third : slice_index_or s (i + 2) 0 < 256
  pub fourth : slice_index_or s (i + 3) 0 < 256

-- "A layout gives every byte of every open record a place of its own."
use Rattle.std.specs.Prelude.{◌≡◌, List, ℕ, ◌<◌, length}
use Rattle.rows.specs.Definition.Lists.{at}

-- a place of RAM: a row of the list, and an offset in its segment
pub record Place : Type 0 where
  pub row : ℕ
  pub offset : ℕ

-- byte k of record i, of records with these lengths
pub record ByteOf (lengths : List ℕ) (i k : ℕ) : Type 0 where
  pub record-known : i < length lengths
  pub in-record : k < at lengths i

-- every byte of every record has a place of its own, one of the places P
pub record Layout (lengths : List ℕ) (P : Place → Type 0) : Type 0 where
  pub placed : ℕ → ℕ → Place
  pub inside : (i k : ℕ) → ByteOf lengths i k → P (placed i k)
  pub apart : (i j k l : ℕ) → ByteOf lengths i k → ByteOf lengths j l → placed i k ≡ placed j l → (i ≡ j) × (k ≡ l)

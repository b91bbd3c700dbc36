-- The rows of channels: the sum of their records, and the place of a channel.
use Rattle.std.specs.Prelude.{cond, List, [], ◌∷◌, Option, Some, None, ℕ, ◌+◌, ltb, eqb}
use Rattle.rows.specs.Definition.Lists.{first_where}
use Rattle.rows.specs.declared.Channel.{Channel}

abbrev pub new_channel : (number device unit n : ℕ) → Channel
new_channel number device unit n = record { number = number; device = device; unit = unit; n = n }

-- "Unused rows and bytes of the tables are zero"
abbrev pub zero_channel : Channel
zero_channel = new_channel 0 0 0 0

-- "length L = 16 + n"; "T is the sum of their lengths"
abbrev pub sum_of : List Channel → ℕ
sum_of [] = 0
sum_of (c ∷ cs) = (16 + c.n) + sum_of cs

-- the row of this channel, or the number of rows where it is not open
abbrev pub row_in : List Channel → ℕ → ℕ
row_in rows channel = first_where (λ (row : Channel). eqb row.number channel) rows

-- a place among the first n rows, as the code says it
abbrev pub found_at : ℕ → ℕ → Option ℕ
found_at i n = cond (ltb i n) (Some i) None

-- The guard of page zero, which is row 0 of the list: "store touches page zero 30h to 5Bh, save 3Dh and 3Eh".
use Rattle.std.specs.Prelude.{Bool, ◌&&◌, ◌||◌, ◌≢◌, ℕ, ◌+◌, ◌≤◌, ltb, eqb}

-- "30h to 5Bh, save 3Dh and 3Eh"
pub record GuardedByte (offset : ℕ) : Type 0 where
  pub from : 48 ≤ offset
  pub to : offset ≤ 91
  pub save : (offset ≢ 61) × (offset ≢ 62)

-- n bytes from this offset of this row touch one. 30h is 48, 3Dh 61, 3Fh 63, and 5Bh 91
abbrev pub guarded : (row offset n : ℕ) → Bool
guarded row offset n = eqb row 0 && ltb 0 n && ((ltb offset 61 && ltb 48 (offset + n)) || (ltb offset 92 && ltb 63 (offset + n)))

-- How the chain's length and the EXOS boundary move with T and R.
use Rattle.std.specs.Prelude.{◌≡◌, ℕ, ◌+◌, ◌-◌, ◌*◌, ◌/◌, ◌%◌, ◌≤◌, ◌<◌}
use Rattle.std.proofs.Math.Decide.{dec_le}
use Rattle.std.proofs.Common.{arith, le-leb}
use Rattle.std.proofs.lemmas.Bool.{lt-leb}
use Rattle.rows.specs.Definition.Sizes.{chain_length, boundary_at}

pub length-low : (r n : ℕ) → n ≤ r → chain_length r n ≡ 1
unfolding chain_length
length-low r n h = rw (le-leb n r h)

pub length_high : (r n : ℕ) → r < n → chain_length r n ≡ 1 + (n - r + 16383) / 16384
unfolding chain_length
length_high r n h = rw (lt-leb n r h)

pub edge-low : (r n : ℕ) → n ≤ r → boundary_at r n ≡ r - n
unfolding boundary_at
edge-low r n h = rw (le-leb n r h)

pub edge-high : (r n : ℕ) → r < n → boundary_at r n ≡ 16383 - (n - r - 1) % 16384
unfolding boundary_at
edge-high r n h = rw (lt-leb n r h)

-- with no `-` and no `%`: a line above R ends in segment c at the boundary e
pub record Ends (r n c e : ℕ) : Type 0 where
  pub some : 1 ≤ c
  pub sum : e + n ≡ r + 16384 * c
  pub top : e < 16384

pub ends : (r n : ℕ) → r < n → Ends r n (chain_length r n - 1) (boundary_at r n)
ends r n h =
    let l = length_high r n h in
    let e = edge-high r n h in
    record {
      some = rw l (omega arith);
      sum = rw (l, e) (omega arith);
      top = rw e (omega arith);
    }

pub length_some : (r n : ℕ) → 1 ≤ chain_length r n
length_some r n = elim (dec_le n r) [ yes h ↦ omega (arith, length-low r n h) | no h ↦ omega (arith, length_high r n (omega arith)) ]

-- the EXOS boundary lies in a segment
pub edge-small : (r n : ℕ) → r ≤ 16384 → boundary_at r n ≤ 16384
edge-small r n h = elim (dec_le n r) [ yes a ↦ omega (arith, edge-low r n a) | no a ↦ omega (arith, edge-high r n (omega arith)) ]

pub length-mono : (r s n m : ℕ) → s ≤ r → n ≤ m → chain_length r n ≤ chain_length s m
length-mono r s n m h g =
    elim (dec_le n r) [
      | yes a ↦ omega (arith, length-low r n a, length_some s m)
      | no a ↦
          let x = ends r n (omega arith) in
          let y = ends s m (omega arith) in
          omega arith
    ]

-- a shorter line in the same segment ends higher
pub edge-falls : (r n m : ℕ) → n ≤ m → chain_length r n ≡ chain_length r m → boundary_at r m ≤ boundary_at r n
edge-falls r n m h e =
    elim (dec_le m r) [
      | yes a ↦ omega (arith, edge-low r m a, edge-low r n (omega arith))
      | no a ↦
          let y = ends r m (omega arith) in
          elim (dec_le n r) [
            | yes b ↦ absurd (omega (arith, length-low r n b))
            | no b ↦ let x = ends r n (omega arith) in omega arith
          ]
    ]

pub chain-most : (r n k : ℕ) → n ≤ r + 16384 * k → chain_length r n ≤ 1 + k
chain-most r n k h = elim (dec_le n r) [ yes g ↦ omega (arith, length-low r n g) | no g ↦ let x = ends r n (omega arith) in omega arith ]

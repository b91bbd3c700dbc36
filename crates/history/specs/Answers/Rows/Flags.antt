-- 15 FLAGS, "a bit other than 4, 5, 6": bit by bit, and as reset asks it.
use Rattle.std.specs.Prelude.{◌≡◌, refl, ◌⊎◌, ℕ, zero, suc, ◌+◌, ◌*◌, ◌/◌, ◌%◌, ◌^◌, ◌≤◌, ◌<◌}
use Rattle.std.proofs.Common.{sym, ap, ◌∙◌, inl, inr, arith, shr-shr}
use Rattle.std.proofs.Math.Decide.{ℕ_discrete}
use Rattle.std.proofs.lemmas.Nat.{shr_le}
use Rattle.kernel.specs.Definition.Refusals.{OtherBit}

half : (x : ℕ) → (x % 2 ≡ 1 → ⊥) → x ≡ 2 * (x / 2)
half x n = omega arith

fourth : (x : ℕ) → x / 2 / 2 ≡ x / 4
fourth x = omega arith

eighth : (x : ℕ) → x / 4 / 2 ≡ x / 8
eighth x = omega arith

odd : (flags q : ℕ) → flags ≡ 8 * q → 0 < flags % 16 → q % 2 ≡ 1
odd flags q e h = omega arith

pub low_bit : (flags : ℕ) → 0 < flags % 16 → (k : ℕ) × OtherBit flags k
low_bit flags h =
    elim (ℕ_discrete (flags / 2 ^ 0 % 2) 1) [
      | yes a ↦ low 0 (omega arith) a
      | no a ↦ elim (ℕ_discrete (flags / 2 ^ 1 % 2) 1) [
        | yes b ↦ low 1 (omega arith) b
        | no b ↦ elim (ℕ_discrete (flags / 2 ^ 2 % 2) 1) [
          | yes c ↦ low 2 (omega arith) c
          | no c ↦
              let w : flags ≡ 2 * (flags / 2) = omega (arith, half (flags / 1) a) in
              let x : flags / 2 ≡ 2 * (flags / 4) = omega (arith, half (flags / 2) b, fourth flags) in
              let y : flags / 4 ≡ 2 * (flags / 8) = omega (arith, half (flags / 4) c, eighth flags) in
              low 3 (omega arith) (odd flags (flags / 8) (omega arith) h)
        ]
      ]
    ]
  where
    low : (k : ℕ) → k < 4 → flags / 2 ^ k % 2 ≡ 1 → (k : ℕ) × OtherBit flags k
    low k h e = (k, record { other = (λ q. omega arith, λ q. omega arith, λ q. omega arith); set = e })

-- a number above 0 has a bit
some-bit : (most x : ℕ) → 1 ≤ x → x ≤ most → (j : ℕ) × (x / 2 ^ j % 2 ≡ 1)
some-bit zero x p h = absurd (omega arith)
some-bit (suc most) x p h =
    elim (ℕ_discrete (x % 2) 1) [
      | yes e ↦ (0, omega arith)
      | no e ↦ let (j, b) = some-bit most (x / 2) (omega arith) (omega arith) in (1 + j, ap (λ (y : ℕ). y % 2) (sym (shr-shr x 1 j)) ∙ b)
    ]

pub high_bit : (flags : ℕ) → 128 ≤ flags → (k : ℕ) × OtherBit flags k
high_bit flags h =
    let x = flags / 2 ^ 7 in
    let (j, b) = some-bit x x (omega arith) (omega arith) in
    (7 + j, record { other = (λ q. omega arith, λ q. omega arith, λ q. omega arith); set = ap (λ (y : ℕ). y % 2) (sym (shr-shr flags 7 j)) ∙ b })

from-seven : (flags j : ℕ) → flags / 2 ^ (7 + j) % 2 ≡ 1 → 128 ≤ flags
from-seven flags j e = omega (arith, shr-shr flags 7 j, shr_le (flags / 2 ^ 7) j)

pub bit-other : (flags k : ℕ) → OtherBit flags k → (0 < flags % 16) ⊎ (128 ≤ flags)
bit-other flags zero b = inl (omega (arith, b.set))
bit-other flags (suc zero) b = inl (omega (arith, b.set))
bit-other flags (suc (suc zero)) b = inl (omega (arith, b.set))
bit-other flags (suc (suc (suc zero))) b = inl (omega (arith, b.set))
bit-other flags (suc (suc (suc (suc zero)))) b = absurd (b.other.0 refl)
bit-other flags (suc (suc (suc (suc (suc zero))))) b = absurd (b.other.1 refl)
bit-other flags (suc (suc (suc (suc (suc (suc zero)))))) b = absurd (b.other.2 refl)
bit-other flags (suc (suc (suc (suc (suc (suc (suc j))))))) b =
    let e : suc (suc (suc (suc (suc (suc (suc j)))))) ≡ 7 + j = omega arith in inr (from-seven flags j (rw e at b.set))

-- What std's `to_le_bytes` gives is a number's lowest bytes.
use Rattle.std.proofs.Common.{◌≡◌, ap, sym, refl, ◌∙◌, ℕ, zero, suc, ◌/◌, ◌%◌, ◌^◌, arith}
use Rattle.std.proofs.Math.Nat.{div-div-eq-div-mul, pow-suc}
use Rattle.std.specs.Int.{byte_at, bytes_low_first, to_le_bytes, w32, w64}
use Rattle.image.specs.Definition.Image.{low_bytes, u32_bytes, u64_bytes}

byte-is : (i n : ℕ) → byte_at i n ≡ n / 256 ^ i % 256
byte-is zero n = omega arith
byte-is (suc i) n = refl

from-byte : (i k n : ℕ) → bytes_low_first i k n ≡ low_bytes k (n / 256 ^ i)
from-byte i zero n = refl
from-byte i (suc k) n =
    let next : n / 256 ^ suc i ≡ n / 256 ^ i / 256 = ap (λ m. n / m) (pow-suc 256 i) ∙ sym (div-div-eq-div-mul n (256 ^ i) 256) in
    rw (byte-is i n, from-byte (suc i) k n, next)

pub four_low : (x : ℕ) → to_le_bytes w32 x ≡ u32_bytes x
unfolding u32_bytes
four_low x = let z : x / 256 ^ 0 ≡ x = omega arith in from-byte 0 4 x ∙ ap (low_bytes 4) z

pub eight_low : (x : ℕ) → to_le_bytes w64 x ≡ u64_bytes x
unfolding u64_bytes
eight_low x = let z : x / 256 ^ 0 ≡ x = omega arith in from-byte 0 8 x ∙ ap (low_bytes 8) z

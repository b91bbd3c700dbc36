-- A number and its bits: each gives the other back. The bits of bytes.
use Rattle.std.specs.Prelude.{◌≡◌, ℕ, zero, suc, ◌+◌, ◌*◌, ◌/◌, ◌%◌, ◌^◌, ◌<◌, cond, List, [], ◌∷◌, ◌++◌, length, take, drop, ◌==◌, refl}
use Rattle.std.proofs.Common.{sym, ap, ap₂, ◌∙◌, append_assoc, mod-lt, mod-eq_of_lt, pow-suc, one-add, arith, length-append}
use Rattle.std.proofs.Math.Pow.{high}
use Rattle.std.proofs.lemmas.Nat.{mod-pow-add}
use Rattle.std.proofs.Math.Seq.{take-nil, drop-nil, take-append-add, drop-append-add}
use Rattle.modules.specs.Definition.Bits.{Bit, O, I, bits_of, number_of, bits_in}

-- ---- a number's bits

pub bits-length : (n x : ℕ) → length (bits_of n x) ≡ n
unfolding bits_of
bits-length zero x = refl
bits-length (suc n) x = ap suc (bits-length n x)

-- one more bit
number_more : (y d : ℕ) (bits : List Bit) → d < 2 → number_of y (cond (d == 0) O I ∷ bits) ≡ number_of (2 * y + d) bits
number_more y zero bits h = ap (λ (z : ℕ). number_of z bits) (omega arith)
number_more y (suc zero) bits h = refl
number_more y (suc (suc d)) bits h = absurd (omega arith)

-- the lowest n + 1 bits are bit n and the lowest n
mod-more : (n x : ℕ) → x % 2 ^ suc n ≡ (x / 2 ^ n % 2) * 2 ^ n + x % 2 ^ n
mod-more n x = ap (λ (k : ℕ). x % 2 ^ k) (sym (one-add n)) ∙ mod-pow-add x 1 n

pub number-bits : (n x y : ℕ) → number_of y (bits_of n x) ≡ y * 2 ^ n + x % 2 ^ n
unfolding bits_of
number-bits zero x y = omega arith
number-bits (suc n) x y =
    let d : ℕ = x / 2 ^ n % 2 in
    number_more y d (bits_of n x) (mod-lt (x / 2 ^ n) (omega arith)) ∙ number-bits n x (2 * y + d) ∙ rw (mod-more n x, pow-suc 2 n) (omega arith)

pub number-back : (n x : ℕ) → x < 2 ^ n → number_of 0 (bits_of n x) ≡ x
number-back n x h = number-bits n x 0 ∙ rw (mod-eq_of_lt h) (omega arith)

-- ---- the number of some bits

pub number-from : (y : ℕ) (bits : List Bit) → number_of y bits ≡ y * 2 ^ length bits + number_of 0 bits
number-from y [] = omega arith
number-from y (O ∷ bits) = number-from (2 * y) bits ∙ rw (pow-suc 2 (length bits)) (omega arith)
number-from y (I ∷ bits) = number-from (2 * y + 1) bits ∙ rw (pow-suc 2 (length bits), number-from 1 bits) (omega arith)

number-less : (bits : List Bit) → number_of 0 bits < 2 ^ length bits
number-less [] = omega arith
number-less (O ∷ bits) = rw (pow-suc 2 (length bits)) (omega (arith, number-less bits))
number-less (I ∷ bits) = rw (pow-suc 2 (length bits), number-from 1 bits) (omega (arith, number-less bits))

-- bit n of a number is the lowest of what stands above n bits
number-top : (z : ℕ) (bits : List Bit) → number_of z bits / 2 ^ length bits ≡ z
number-top z bits = rw (number-from z bits) (high z (length bits) (number-less bits))

bits-from : (y : ℕ) (bits : List Bit) → bits_of (length bits) (number_of y bits) ≡ bits
unfolding bits_of
bits-from y [] = refl
bits-from y (O ∷ bits) =
    let e : 2 * y % 2 ≡ 0 = omega arith in
    ap₂ (λ (b : Bit) (more : List Bit). b ∷ more) (rw (number-top (2 * y) bits, e)) (bits-from (2 * y) bits)
bits-from y (I ∷ bits) =
    let e : (2 * y + 1) % 2 ≡ 1 = omega arith in
    ap₂ (λ (b : Bit) (more : List Bit). b ∷ more) (rw (number-top (2 * y + 1) bits, e)) (bits-from (2 * y + 1) bits)

pub bits_back : (n : ℕ) (bits : List Bit) → length bits ≡ n → bits_of n (number_of 0 bits) ≡ bits
bits_back n bits e = rw (← e) (bits-from 0 bits)

pub number_fits : (n : ℕ) (bits : List Bit) → length bits ≡ n → number_of 0 bits < 2 ^ n
number_fits n bits e = rw (← e) (number-less bits)

-- ---- the bits of bytes

pub bytes-cons : (x : ℕ) (bytes : List ℕ) → bits_in (x ∷ bytes) ≡ bits_of 8 x ++ bits_in bytes
unfolding bits_in
bytes-cons x bytes = refl

pub bytes-none : bits_in [] ≡ []
unfolding bits_in
bytes-none = refl

pub bytes-length : (bytes : List ℕ) → length (bits_in bytes) ≡ 8 * length bytes
bytes-length [] = rw bytes-none
bytes-length (x ∷ bytes) = rw (bytes-cons x bytes, length-append (bits_of 8 x) (bits_in bytes), bits-length 8 x, bytes-length bytes) (omega arith)

pub bytes-append : (xs ys : List ℕ) → bits_in (xs ++ ys) ≡ bits_in xs ++ bits_in ys
bytes-append [] ys = rw bytes-none
bytes-append (x ∷ xs) ys = rw (bytes-cons x (xs ++ ys), bytes-cons x xs, bytes-append xs ys, append_assoc)

-- 8 bits of each byte
eight-more : (n x : ℕ) → 8 * suc n ≡ length (bits_of 8 x) + 8 * n
eight-more n x = rw (bits-length 8 x) (omega arith)

pub bytes_take : (n : ℕ) (bytes : List ℕ) → bits_in (take n bytes) ≡ take (8 * n) (bits_in bytes)
bytes_take zero bytes = bytes-none
bytes_take (suc n) [] = rw bytes-none (sym (take-nil (8 * suc n)))
bytes_take (suc n) (x ∷ bytes) =
    rw (bytes-cons x (take n bytes), bytes-cons x bytes, bytes_take n bytes, eight-more n x) (sym (take-append-add (bits_of 8 x) (bits_in bytes) (8 * n)))

pub bytes_drop : (n : ℕ) (bytes : List ℕ) → bits_in (drop n bytes) ≡ drop (8 * n) (bits_in bytes)
bytes_drop zero bytes = refl
bytes_drop (suc n) [] = rw bytes-none (sym (drop-nil (8 * suc n)))
bytes_drop (suc n) (x ∷ bytes) =
    rw (bytes-cons x bytes, bytes_drop n bytes, eight-more n x) (sym (drop-append-add (bits_of 8 x) (bits_in bytes) (8 * n)))

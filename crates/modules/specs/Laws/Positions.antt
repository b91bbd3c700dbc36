-- The bits from a position of a stream on, out of four bytes.
use Rattle.std.specs.Prelude.{◌≡◌, ℕ, zero, suc, ◌+◌, ◌-◌, ◌*◌, ◌/◌, ◌%◌, ◌^◌, ◌<◌, ◌≤◌, min, List, [], ◌∷◌, ◌++◌, length, take, drop, slice_index, slice_index_or, refl}
use Rattle.std.proofs.Common.{sym, ap, ◌∙◌, append_assoc, arith, length-take, length-drop, length-append, shr-shr, get_or-drop, drop-drop, take_at}
use Rattle.std.proofs.lemmas.List.{take_min, drop-append-le, take-append-le}
use Rattle.modules.specs.Definition.Bits.{Bit, bits_of, bits_in, number_of}
use Rattle.modules.specs.Within.Windows.{window_at, Window}
use Rattle.modules.specs.Laws.Numbers.{bits-length, number-bits, bits_back, bytes-length, bytes-append, bytes_drop}

-- ---- the bits of a number, in parts

bits-more : (m n x : ℕ) → bits_of (m + n) x ≡ bits_of m (x / 2 ^ n) ++ bits_of n x
unfolding bits_of
bits-more zero n x = let z : 0 + n ≡ n = omega arith in rw z
bits-more (suc m) n x =
    let s : suc m + n ≡ suc (m + n) = omega arith in
    let p : n + m ≡ m + n = omega arith in
    rw (s, bits-more m n x, shr-shr x n m, p)

bits-rest : (x n : ℕ) → bits_of n (x % 2 ^ n) ≡ bits_of n x
bits-rest x n = ap (λ (y : ℕ). bits_of n y) (sym (number-bits n x 0 ∙ omega arith)) ∙ bits_back n (bits_of n x) (bits-length n x)

drop_bits : (r m x : ℕ) → drop r (bits_of (r + m) x) ≡ bits_of m x
unfolding bits_of
drop_bits zero m x = let z : 0 + m ≡ m = omega arith in rw z
drop_bits (suc r) m x = let s : suc r + m ≡ suc (r + m) = omega arith in rw s (drop_bits r m x)

-- k bits behind r, with `low` behind them
bits-within : (r k low n x : ℕ) → n ≡ r + (k + low) → number_of 0 (take k (drop r (bits_of n x))) ≡ x / 2 ^ low % 2 ^ k
bits-within r k low n x e =
    rw (e, drop_bits r (k + low) x, bits-more k low x, take_at (bits_of k (x / 2 ^ low)) (bits_of low x) k (bits-length k (x / 2 ^ low)), number-bits k (x / 2 ^ low) 0) (omega arith)

three-bytes : (a b c : ℕ) → b < 256 → c < 256 → bits_of 24 (65536 * a + 256 * b + c) ≡ bits_of 8 a ++ (bits_of 8 b ++ bits_of 8 c)
three-bytes a b c h k =
    let x = 65536 * a + 256 * b + c in
    let high : x / 65536 ≡ a = omega arith in
    let middle : x / 256 % 256 ≡ b = omega arith in
    let low : x % 256 ≡ c = omega arith in
    let second : bits_of 8 (x / 256) ≡ bits_of 8 b = sym (bits-rest (x / 256) 8) ∙ ap (λ (y : ℕ). bits_of 8 y) middle in
    let third : bits_of 8 x ≡ bits_of 8 c = sym (bits-rest x 8) ∙ ap (λ (y : ℕ). bits_of 8 y) low in
    bits-more 8 16 x ∙ rw (high, bits-more 8 8 x, second, third)

four_bytes : (a b c d : ℕ) → b < 256 → c < 256 → d < 256 → bits_of 32 (16777216 * a + 65536 * b + 256 * c + d) ≡ bits_of 8 a ++ (bits_of 8 b ++ (bits_of 8 c ++ bits_of 8 d))
four_bytes a b c d h k l =
    let x = 16777216 * a + 65536 * b + 256 * c + d in
    let high : x / 16777216 ≡ a = omega arith in
    let low : x % 16777216 ≡ 65536 * b + 256 * c + d = omega arith in
    let rest : bits_of 24 x ≡ bits_of 8 b ++ (bits_of 8 c ++ bits_of 8 d) =
    sym (bits-rest x 24) ∙ ap (λ (y : ℕ). bits_of 24 y) low ∙ three-bytes b c d k l in
    bits-more 8 24 x ∙ rw (high, rest)

-- ---- of a stream

-- the first four bytes of some, zero where there are none
first-four : (s : List ℕ)
    → (more : List Bit) × (bits_in (s ++ (0 ∷ 0 ∷ 0 ∷ 0 ∷ [])) ≡ bits_of 8 (slice_index s 0) ++ (bits_of 8 (slice_index s 1) ++ (bits_of 8 (slice_index s 2) ++ (bits_of 8 (slice_index s 3) ++ more))))
unfolding bits_in
first-four [] = (bits_in [], refl)
first-four (a ∷ []) = (bits_in (0 ∷ []), refl)
first-four (a ∷ b ∷ []) = (bits_in (0 ∷ 0 ∷ []), refl)
first-four (a ∷ b ∷ c ∷ []) = (bits_in (0 ∷ 0 ∷ 0 ∷ []), refl)
first-four (a ∷ b ∷ c ∷ d ∷ s) = (bits_in (s ++ (0 ∷ 0 ∷ 0 ∷ 0 ∷ [])), refl)

-- what stands behind changes nothing
part-append : (r k : ℕ) (xs ys : List Bit) → r + k ≤ length xs → take k (drop r (xs ++ ys)) ≡ take k (drop r xs)
part-append r k xs ys h =
    let n = length-drop r xs in
    rw (drop-append-le r xs ys (omega arith)) (take-append-le k (drop r xs) ys (omega arith))

-- k bits from a position on, out of the four bytes from index i on
module _ (s : List ℕ) (i at k : ℕ) (h : at + k ≤ 8 * length s) (from : 8 * i ≤ at) (to : at + k ≤ 8 * i + 32) where
  abbrev skipped : ℕ
  skipped = at - 8 * i

  part-from : take k (drop at (bits_in s)) ≡ take k (drop skipped (bits_in (drop i s)))
  part-from =
      let e : 8 * i + skipped ≡ at = omega arith in
      rw (bytes_drop i s, drop-drop skipped (8 * i) (bits_in s), e)

  bits-window : slice_index_or s (i + 1) 0 < 256 → slice_index s (i + 2) < 256 → slice_index s (i + 3) < 256
      → take k (drop at (bits_in s)) ≡ take k (drop skipped (bits_of 32 (window_at s i)))
  bits-window l m n =
      let u = drop i s in
      let f = first-four u in
      let a = slice_index_or s i 0 in
      let b = slice_index_or s (i + 1) 0 in
      let c = slice_index_or s (i + 2) 0 in
      let d = slice_index_or s (i + 3) 0 in
      let w = bits_of 8 a ++ (bits_of 8 b ++ (bits_of 8 c ++ bits_of 8 d)) in
      let zeros : List ℕ = 0 ∷ 0 ∷ 0 ∷ 0 ∷ [] in
      let z : i + 0 ≡ i = omega arith in
      let first : slice_index_or u 0 0 ≡ a = get_or-drop i s 0 0 ∙ rw z in
      let all : bits_in u ++ bits_in zeros ≡ w ++ f.0 = sym (bytes-append u zeros) ∙ f.1
      ∙ rw (first, get_or-drop i s 1 0, get_or-drop i s 2 0, get_or-drop i s 3 0, append_assoc, append_assoc, append_assoc) in
      let o : length (bits_in u) ≡ 8 * (length s - i) = bytes-length u ∙ rw (length-drop i s) in
      let e : length w ≡ 32 = rw (length-append, length-append, length-append, bits-length 8 a, bits-length 8 b, bits-length 8 c, bits-length 8 d) in
      part-from ∙ sym (part-append skipped k (bits_in u) (bits_in zeros) (omega arith)) ∙ ap (λ (bits : List Bit). take k (drop skipped bits)) all
      ∙ part-append skipped k w f.0 (omega arith) ∙ ap (λ (bits : List Bit). take k (drop skipped bits)) (sym (four_bytes a b c d l m n))

  -- their number, out of what is held of the stream
  pub number_at : (x low : ℕ) → Window s i x → low ≡ 8 * i + 32 - (at + k) → x / 2 ^ low % 2 ^ k ≡ number_of 0 (take k (drop at (bits_in s)))
  number_at x low w e =
      rw w.is
      (sym (ap (λ (bits : List Bit). number_of 0 bits) (bits-window w.second w.third w.fourth) ∙ bits-within skipped k low 32 (window_at s i) (omega arith)))

-- the bits that are left from a position on
pub rest-length : (bytes : List ℕ) (at : ℕ) → length (drop at (bits_in bytes)) ≡ 8 * length bytes - at
rest-length bytes at = rw (length-drop at (bits_in bytes), bytes-length bytes)

-- ---- of the bytes that are looked at

pub at_most : (n : ℕ) (bytes : List ℕ) → (take (min (length bytes) n) bytes ≡ take n bytes) × (length (take (min (length bytes) n) bytes) ≤ n)
at_most n bytes =
    let e : min (length bytes) n ≡ min n (length bytes) = omega arith in
    let l = length-take (min (length bytes) n) bytes in
    (rw e (take_min n bytes), omega arith)

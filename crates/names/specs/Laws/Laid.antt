-- Laws of upper-casing and of words laid in 28 bytes.
use Rattle.std.specs.Char.{to_ascii_uppercase}
use Rattle.std.proofs.Common.{lt-ltb, le-ltb}
use Rattle.std.specs.Prelude.{ℕ, zero, suc, ◌-◌, ◌≤◌, ◌<◌, min, ◌≡◌, refl, List, [], ◌∷◌, ◌++◌, map, length, take, drop, replicate}
use Rattle.std.proofs.Common.{sym, ap, ◌∙◌, length-take, take_all, take-take, length-take-le, le-leb, arith, inl, inr}
use Rattle.std.proofs.lemmas.List.{map-append, length-map, drop-replicate}
use Rattle.std.proofs.lemmas.Bool.{lt-leb}
use Rattle.std.proofs.Math.Decide.{dec_le}
use Rattle.names.specs.Definition.Grammar.{All, Capital, Letter}
use Rattle.names.specs.Definition.Words.{upper, upper_all, word_of}

pub upper-below : (b : ℕ) → b < 97 → upper b ≡ b
unfolding upper
upper-below b h = rw (lt-leb 97 b h)

pub upper-above : (b : ℕ) → 97 ≤ b → 122 < b → upper b ≡ b
unfolding upper
upper-above b l h = rw (le-leb 97 b l, lt-leb b 122 h)

pub upper-small : (b : ℕ) → 97 ≤ b → b ≤ 122 → upper b ≡ b - 32
unfolding upper
upper-small b l h = rw (le-leb 97 b l, le-leb b 122 h)

-- std's upper case
pub upper-ascii : (b : ℕ) → to_ascii_uppercase b ≡ upper b
upper-ascii b = go (dec_le 97 b) (dec_le b 122)
  where
    go : Dec (97 ≤ b) → Dec (b ≤ 122) → to_ascii_uppercase b ≡ upper b
    go (no a) c = rw (upper-below b (omega arith), lt-ltb b 97 (omega arith))
    go (yes a) (yes c) = rw (upper-small b a c, le-ltb b 97 a, lt-ltb b 123 (omega arith))
    go (yes a) (no c) = rw (upper-above b a (omega arith), le-ltb b 97 a, le-ltb b 123 (omega arith))

-- ---- a word, laid in 28 bytes

upper-zeros : (n : ℕ) → map upper (replicate n 0) ≡ replicate n 0
unfolding upper
upper-zeros zero = refl
upper-zeros (suc n) = ap (λ (w : List ℕ). 0 ∷ w) (upper-zeros n)

word-laid : (s : List ℕ) (n : ℕ) → n ≤ 28 → n ≤ length s → map upper (take n s ++ replicate (28 - n) 0) ≡ word_of (take n s)
unfolding word_of upper_all
word-laid s n h l =
    let long : length (take n s) ≡ n = length-take-le n s l in
    rw (map-append, upper-zeros, take_all 28 (take n s) (omega arith), long)

word-of-28 : (s : List ℕ) (n : ℕ) → 28 ≤ n → 28 ≤ length s → word_of (take 28 s) ≡ word_of (take n s)
unfolding word_of upper_all
word-of-28 s n h l =
    let a : 28 - length (take n s) ≡ 0 = omega (arith, length-take n s) in
    let b : 28 - length (take 28 s) ≡ 0 = omega (arith, length-take 28 s) in
    rw (take-take 28 28 s (omega arith), take-take 28 n s h, a, b)

-- only so many bytes count as there are, and as find room
word-whole : (s : List ℕ) (n : ℕ) → word_of (take (min 28 (min n (length s))) s) ≡ word_of (take n s)
word-whole s n = go (dec_le n (length s)) (dec_le 28 n) (dec_le 28 (length s))
  where
    go : Dec (n ≤ length s) → Dec (28 ≤ n) → Dec (28 ≤ length s) → word_of (take (min 28 (min n (length s))) s) ≡ word_of (take n s)
    go (yes a) (yes b) c = let e : min 28 (min n (length s)) ≡ 28 = omega arith in rw e (word-of-28 s n b (omega arith))
    go (yes a) (no b) c = let e : min 28 (min n (length s)) ≡ n = omega arith in rw e
    go (no a) b (yes c) = let e : min 28 (min n (length s)) ≡ 28 = omega arith in rw e (word-of-28 s n (omega arith) c)
    go (no a) b (no c) =
        let e : min 28 (min n (length s)) ≡ length s = omega arith in
        rw (e, take_all (length s) s (omega arith), take_all n s (omega arith))

upper-all-ascii : (bs : List ℕ) → map to_ascii_uppercase bs ≡ map upper bs
upper-all-ascii [] = refl
upper-all-ascii (b ∷ bs) = rw (upper-ascii b, upper-all-ascii bs)

-- the first n of 28 zeros are bytes of s, and all is in capitals
pub word-copied : (s : List ℕ) (n count : ℕ) → n ≡ min (min count (length s)) 28
    → map to_ascii_uppercase (take n s ++ drop n (replicate 28 0)) ≡ word_of (take count s)
word-copied s n count e =
    let m : n ≡ min 28 (min count (length s)) = omega arith in
    upper-all-ascii (take n s ++ drop n (replicate 28 0))
    ∙ ap (λ (z : List ℕ). map upper (take n s ++ z)) (drop-replicate n 28 0)
    ∙ word-laid s n (omega arith) (omega arith)
    ∙ ap (λ (k : ℕ). word_of (take k s)) m
    ∙ word-whole s count

-- ---- a word says which name it is

pub upper-capital : (bs : List ℕ) → All Capital bs → upper_all bs ≡ bs
unfolding upper_all
upper-capital [] h = refl
upper-capital (b ∷ bs) h = rw (upper-below b (omega arith), upper-capital bs h.1)

upper-letter : (b : ℕ) → Letter b → 65 ≤ upper b
upper-letter b h =
    elim h [
      | inl x ↦ omega (arith, upper-below b (omega arith))
      | inr x ↦ omega (arith, upper-small b x.0 x.1)
    ]

all_upper : (bs : List ℕ) → All Letter bs → All (λ b. 65 ≤ b) (upper_all bs)
unfolding upper_all
all_upper [] h = tt
all_upper (b ∷ bs) h = (upper-letter b h.0, all_upper bs h.1)

no-zeros : (n : ℕ) (b : ℕ) (bs : List ℕ) → 65 ≤ b → replicate n 0 ≡ b ∷ bs → ⊥
no-zeros zero b bs h e = let z : ◌≡◌ {A = ℕ} 0 1 = cc in omega arith
no-zeros (suc n) b bs h e = let z : ◌≡◌ {A = ℕ} 0 b = cc in omega arith

zeros-one : (a b : List ℕ) (m n : ℕ) → All (λ x. 65 ≤ x) a → All (λ x. 65 ≤ x) b → a ++ replicate m 0 ≡ b ++ replicate n 0 → a ≡ b
zeros-one [] [] m n p q e = refl
zeros-one [] (y ∷ b) m n p q e = absurd (no-zeros m y (b ++ replicate n 0) q.0 e)
zeros-one (x ∷ a) [] m n p q e = absurd (no-zeros n x (a ++ replicate m 0) p.0 (sym e))
zeros-one (x ∷ a) (y ∷ b) m n p q e =
    let tails : a ++ replicate m 0 ≡ b ++ replicate n 0 = cc in
    let heads : x ≡ y = cc in
    let rest = zeros-one a b m n p.1 q.1 tails in
    cc

-- Two names of at most 28 letters have the same word exactly where they are the same in capitals.
pub word-one : (a b : List ℕ) → All Letter a → All Letter b → length a ≤ 28 → length b ≤ 28 → word_of a ≡ word_of b → upper_all a ≡ upper_all b
unfolding word_of
word-one a b p q l m e =
    zeros-one (upper_all a) (upper_all b) (28 - length a) (28 - length b) (all_upper a p) (all_upper b q)
    (rw (take_all 28 a l, take_all 28 b m) at e)

pub word_same : (a b : List ℕ) → length a ≤ 28 → length b ≤ 28 → upper_all a ≡ upper_all b → word_of a ≡ word_of b
unfolding word_of upper_all
word_same a b l m e =
    let n : length a ≡ length b = sym (length-map a upper) ∙ ap length e ∙ length-map b upper in
    rw (take_all 28 a l, take_all 28 b m, e, n)

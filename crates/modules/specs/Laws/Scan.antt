-- The reading bit by bit is the reading item by item.
use Rattle.std.specs.Prelude.{◌≡◌, ℕ, zero, suc, ◌+◌, ◌-◌, ◌*◌, ◌%◌, ◌^◌, ◌<◌, ◌≤◌, Bool, true, false, cond, List, [], ◌∷◌, length, take, drop, nat_lt}
use Rattle.std.proofs.Math.Path.{refl, ap}
use Rattle.std.proofs.Common.{sym, ◌∙◌}
use native.Mathlib.Omega.{arith}
use borrow.Author.Tests.{ne_eqb, ltb-true, ltb-false}
use Rattle.std.proofs.Math.Seq.{length-take-le}
use Rattle.modules.specs.Definition.Bits.{Bit, O, I, number_of}
use Rattle.modules.specs.Definition.Reading.{First, item, ends, illegal, runs-out, with_number, first, end, illegal-item, end-of-input}
use Rattle.modules.specs.Definition.Counter.{after}
use Rattle.modules.specs.Definition.Judging.{judged_at}
use Rattle.modules.specs.Within.Codes.{with_bit, wants, item_of}
use Rattle.modules.specs.Within.Scan.{Scan, stops, with_item, whole, scan, scanned}
use Rattle.modules.specs.Laws.Codes.{wants-left, wants-high, item-byte, item-word, item-page, item_move}
use Rattle.modules.specs.Laws.Numbers.{number-from, number_fits}
use Rattle.modules.specs.declared.Item.{Item}
use Rattle.modules.specs.declared.Item.TheVariants.{Byte, Word, SetPage, Move}
use Rattle.modules.specs.declared.Counter.{Counter}
use Rattle.modules.specs.declared.Target.{Target}

-- the item of a code: its first bits, and its number
code-byte : (x : ℕ) → x < 256 → item_of (512 + x) ≡ Byte x
code-byte x h = let e : (512 + x) % 256 ≡ x = omega arith in sym (item-byte (512 + x) (λ q. omega arith) (omega arith) (omega arith)) ∙ ap (λ (y : ℕ). Byte y) e

code-page : (x : ℕ) → x < 4 → item_of (208 + x) ≡ SetPage x
code-page x h = let e : (208 + x) % 4 ≡ x = omega arith in sym (item-page (208 + x) (λ q. omega arith) (omega arith)) ∙ ap (λ (y : ℕ). SetPage y) e

code-word : (x : ℕ) → x < 65536 → item_of (786432 + x) ≡ Word x
code-word x h =
    let e : (786432 + x) % 65536 ≡ x = omega arith in
    sym (item-word (786432 + x) (λ q. omega arith) (omega arith) (omega arith)) ∙ ap (λ (y : ℕ). Word y) e

code-move : (x : ℕ) → x < 65536 → item_of (1769472 + x) ≡ Move x
code-move x h =
    let e : (1769472 + x) % 65536 ≡ x = omega arith in
    sym (item_move (1769472 + x) (λ q. omega arith) (omega arith)) ∙ ap (λ (y : ℕ). Move y) e

-- what stands first decides
abbrev pub by_first : (n : ℕ) → Target → Counter → First → Scan
by_first n g c (item i rest) = with_item g c i (scan n g (after g.page c i) 1 3 rest)
by_first n g c (ends rest) = stops (judged_at n (end rest))
by_first n g c illegal = stops (judged_at n illegal-item)
by_first n g c runs-out = stops (judged_at n end-of-input)

number_bit : (code : ℕ) (b : Bit) (bits : List Bit) → number_of code (b ∷ bits) ≡ number_of (with_bit code b) bits
number_bit code O bits = refl
number_bit code I bits = refl

module _ (n : ℕ) (g : Target) (c : Counter) where
  -- one of several bits is taken
  scan-bit : (k code : ℕ) (b : Bit) (bits : List Bit) → scan n g c code (suc (suc k)) (b ∷ bits) ≡ scan n g c (with_bit code b) (suc k) bits
  unfolding scan
  scan-bit k code b bits =
      let z : suc (suc k) - 1 ≡ suc k = omega arith in
      rw (z, ← wants-left (with_bit code b) (suc k) (omega arith), ne_eqb (suc k) 0 (omega arith))

  -- the bits that are wanted run out
  pub scan-short : (left code : ℕ) (bits : List Bit) → length bits < left → scan n g c code left bits ≡ stops (judged_at n end-of-input)
  unfolding scan
  scan-short left code [] h = refl
  scan-short zero code (b ∷ bits) h = absurd (omega arith)
  scan-short (suc zero) code (b ∷ bits) h = absurd (omega arith)
  scan-short (suc (suc k)) code (b ∷ bits) h = scan-bit k code b bits ∙ scan-short (suc k) (with_bit code b) bits (omega arith)

  -- or all are taken
  pub scan-take : (left code : ℕ) (bits : List Bit) → 0 < left → left ≤ length bits
      → scan n g c code left bits ≡ scanned n g c (number_of code (take left bits)) (wants (number_of code (take left bits)) 0) (drop left bits)
  unfolding scan
  scan-take zero code bits p h = absurd (omega arith)
  scan-take (suc k) code [] p h = absurd (omega arith)
  scan-take (suc zero) code (b ∷ bits) p h = rw (number_bit code b [])
  scan-take (suc (suc k)) code (b ∷ bits) p h =
      scan-bit k code b bits ∙ rw (number_bit code b (take (suc k) bits)) (scan-take (suc k) (with_bit code b) bits (omega arith) (omega arith))

  -- a number behind an item's first bits
  number-item : (k code : ℕ) (made : ℕ → Item) (bits : List Bit)
      → 0 < k → ((x : ℕ) → x < 2 ^ k → (56 ≤ code * 2 ^ k + x) × (item_of (code * 2 ^ k + x) ≡ made x))
      → scan n g c code k bits ≡ by_first n g c (with_number k made bits)
  unfolding whole with_number
  number-item k code made bits some f = go (nat_lt (length bits) k) refl
    where
      go : (b : Bool) → nat_lt (length bits) k ≡ b
          → scan n g c code k bits ≡ by_first n g c (cond b runs-out (item (made (number_of 0 (take k bits))) (drop k bits)))
      go true e = scan-short k code bits (ltb-true (length bits) k e)
      go false e =
          let m = ltb-false (length bits) k e in
          let l = length-take-le k bits m in
          let x = number_of 0 (take k bits) in
          let y = code * 2 ^ k + x in
          let z : number_of code (take k bits) ≡ y = number-from code (take k bits) ∙ ap (λ (i : ℕ). code * 2 ^ i + x) l in
          let h = f x (number_fits k (take k bits) l) in
          let high = h.0 in
          scan-take k code bits some m ∙ rw (z, wants-high y high, ne_eqb y 14 (λ q. omega arith), ne_eqb y 15 (λ q. omega arith), h.1)

  pub scan-first : (bits : List Bit) → scan n g c 1 3 bits ≡ by_first n g c (first bits)
  unfolding scan first wants whole item_of
  scan-first (O ∷ O ∷ O ∷ bits) = number-item 8 2 (λ x. Byte x) (O ∷ O ∷ bits) (omega arith) (λ x h. (omega arith, code-byte x h))
  scan-first (O ∷ O ∷ I ∷ bits) = number-item 8 2 (λ x. Byte x) (O ∷ I ∷ bits) (omega arith) (λ x h. (omega arith, code-byte x h))
  scan-first (O ∷ I ∷ O ∷ bits) = number-item 8 2 (λ x. Byte x) (I ∷ O ∷ bits) (omega arith) (λ x h. (omega arith, code-byte x h))
  scan-first (O ∷ I ∷ I ∷ bits) = number-item 8 2 (λ x. Byte x) (I ∷ I ∷ bits) (omega arith) (λ x h. (omega arith, code-byte x h))
  scan-first (I ∷ O ∷ O ∷ bits) = number-item 16 12 (λ x. Word x) bits (omega arith) (λ x h. (omega arith, code-word x h))
  scan-first (I ∷ O ∷ I ∷ O ∷ O ∷ bits) = number-item 2 52 (λ x. SetPage x) bits (omega arith) (λ x h. (omega arith, code-page x h))
  scan-first (I ∷ O ∷ I ∷ O ∷ I ∷ bits) = refl
  scan-first (I ∷ O ∷ I ∷ I ∷ O ∷ bits) = number-item 16 27 (λ x. Move x) (O ∷ bits) (omega arith) (λ x h. (omega arith, code-move x h))
  scan-first (I ∷ O ∷ I ∷ I ∷ I ∷ bits) = number-item 16 27 (λ x. Move x) (I ∷ bits) (omega arith) (λ x h. (omega arith, code-move x h))
  scan-first (I ∷ I ∷ O ∷ bits) = refl
  scan-first (I ∷ I ∷ I ∷ bits) = refl
  scan-first (I ∷ O ∷ I ∷ I ∷ []) = refl
  scan-first (I ∷ O ∷ I ∷ O ∷ []) = refl
  scan-first (I ∷ O ∷ I ∷ []) = refl
  scan-first (O ∷ O ∷ []) = refl
  scan-first (O ∷ I ∷ []) = refl
  scan-first (I ∷ O ∷ []) = refl
  scan-first (I ∷ I ∷ []) = refl
  scan-first (O ∷ []) = refl
  scan-first (I ∷ []) = refl
  scan-first [] = refl

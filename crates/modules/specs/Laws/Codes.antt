-- How many bits a code wants, and the item it is.
use Rattle.std.specs.Prelude.{◌≡◌, ℕ, ◌+◌, ◌-◌, ◌*◌, ◌%◌, ◌^◌, ◌<◌, ◌≤◌, Bool, true, false, ◌==◌, ◌≢◌, nat_lt, refl}
use Rattle.std.proofs.Common.{mul-le-mul_right, pow_mono, pow-add}
use Rattle.std.proofs.Math.Decide.{dec_le}
use native.Mathlib.Omega.{arith}
use borrow.Author.Tests.{lt-ltb, le-ltb, ltb-true, ne_eqb, eqb-true}
use Rattle.modules.specs.Within.Codes.{wants, item_of, Coded}
use Rattle.modules.specs.declared.Item.TheVariants.{Byte, Word, SetPage, Move}

pub wants-left : (code left : ℕ) → 0 < left → left ≡ wants code left
unfolding wants
wants-left code left h = rw (lt-ltb 0 left h)

pub wants-none : (code : ℕ) → 12 < code → (code ≢ 13) → (code ≢ 52) → (code ≢ 54) → (code ≢ 55) → 0 ≡ wants code 0
unfolding wants
wants-none code h a b d e =
    let l : 12 ≤ code = omega arith in
    rw (le-ltb code 12 l, ne_eqb code 12 (λ q. omega arith), ne_eqb code 13 a, ne_eqb code 52 b, ne_eqb code 54 d, ne_eqb code 55 e)

-- 55 is the highest code that wants a bit
pub wants-high : (code : ℕ) → 56 ≤ code → wants code 0 ≡ 0
wants-high code h = rw (← wants-none code (omega arith) (λ q. omega arith) (λ q. omega arith) (λ q. omega arith) (λ q. omega arith))

module _ (code : ℕ) where
  module _ (a : code ≡ 53 → ⊥) where
    pub item-page : code < 256 → SetPage (code % 4) ≡ item_of code
    unfolding item_of
    item-page h = rw (ne_eqb code 53 a, lt-ltb code 256 h)

    pub item-byte : 256 ≤ code → code < 768 → Byte (code % 256) ≡ item_of code
    unfolding item_of
    item-byte l h = rw (ne_eqb code 53 a, le-ltb code 256 l, lt-ltb code 768 h)

    pub item-word : 768 ≤ code → code < 851968 → Word (code % 65536) ≡ item_of code
    unfolding item_of
    item-word l h = let k : 256 ≤ code = omega arith in rw (ne_eqb code 53 a, le-ltb code 256 k, le-ltb code 768 l, lt-ltb code 851968 h)

    pub item_move : 851968 ≤ code → Move (code % 65536) ≡ item_of code
    unfolding item_of
    item_move l =
        let j : 256 ≤ code = omega arith in
        let k : 768 ≤ code = omega arith in
        rw (ne_eqb code 53 a, le-ltb code 256 j, le-ltb code 768 k, le-ltb code 851968 l)

-- a code that wants bits is low
wants-by : (code : ℕ) (a b c d e f : Bool) → nat_lt code 12 ≡ a → (code == 12) ≡ b → (code == 13) ≡ c → (code == 52) ≡ d → (code == 54) ≡ e → (code == 55) ≡ f
    → (wants code 0 ≤ 16) × (0 < wants code 0 → code ≤ 55)
unfolding wants
wants-by code true b c d e f p q r s t u = let h = ltb-true code 12 p in rw p (omega arith, λ l. omega arith)
wants-by code false true c d e f p q r s t u = rw (eqb-true code 12 q) (omega arith)
wants-by code false false true d e f p q r s t u = rw (eqb-true code 13 r) (omega arith)
wants-by code false false false true e f p q r s t u = rw (eqb-true code 52 s) (omega arith)
wants-by code false false false false true f p q r s t u = rw (eqb-true code 54 t) (omega arith)
wants-by code false false false false false true p q r s t u = rw (eqb-true code 55 u) (omega arith)
wants-by code false false false false false false p q r s t u = rw (p, q, r, s, t, u) (omega arith, λ h. omega arith)

wants-low : (code : ℕ) → (wants code 0 ≤ 16) × (0 < wants code 0 → code ≤ 55)
wants-low code = wants-by code (nat_lt code 12) (code == 12) (code == 13) (code == 52) (code == 54) (code == 55) refl refl refl refl refl refl

module _ (taken code left : ℕ) (h : Coded taken code left) (some : 0 < left) where
  power-few : 2 ^ left ≤ 65536
  power-few = pow_mono {i = left} {j = 16} h.few

  -- the bits that a code wants fit behind it, in 64 bits
  shifted-few : code * 2 ^ left ≤ 3604480
  shifted-few =
      let m : code * 2 ^ left ≤ 55 * 2 ^ left = mul-le-mul_right (2 ^ left) (h.low some) in
      omega (arith, power-few)

  pub shifted-is : code * 2 ^ left % 18446744073709551616 ≡ code * 2 ^ left
  shifted-is = omega (arith, shifted-few)

  -- an item with those it wants has at most 21 bits
  pub taken-few : taken + left ≤ 21
  taken-few =
      elim (dec_le taken 5) [
        | yes k ↦ omega (arith, h.few)
        | no k ↦ let p = pow_mono {i = 6} {j = taken} (omega arith) in absurd (omega (arith, h.leads, h.low some))
      ]

  -- once they are taken
  coded-more : (x y w : ℕ) → y ≡ code * 2 ^ left → w ≡ wants (y + x) 0 → Coded (taken + left) (y + x) w
  coded-more x y w e f =
      let p : 2 ^ (taken + left) ≡ 2 ^ taken * 2 ^ left = pow-add 2 taken left in
      let m : 2 ^ taken * 2 ^ left ≤ code * 2 ^ left = mul-le-mul_right (2 ^ left) h.leads in
      let l = wants-low (y + x) in
      record { leads = rw p (omega arith); few = rw f l.0; low = rw f l.1 }

-- the same by positions: from where the item begins to where it is read
pub coded-one : (at : ℕ) → Coded (at - at) 1 3
coded-one at = let z : at - at ≡ 0 = omega arith in record { leads = rw z (omega arith); few = omega arith; low = λ h. omega arith }

pub coded-on : (from at code left x y w : ℕ) → from ≤ at → Coded (at - from) code left → 0 < left → y ≡ code * 2 ^ left → w ≡ wants (y + x) 0
    → Coded (at + left - from) (y + x) w
coded-on from at code left x y w l h some e f =
    let q : at + left - from ≡ at - from + left = omega arith in
    rw q (coded-more (at - from) code left h some x y w e f)

-- a power of at most 16 bits in 64
pub power : (k : ℕ) → k ≤ 16 → (1 * 2 ^ k % 18446744073709551616 ≡ 2 ^ k) × (0 < 2 ^ k) × (2 ^ k ≤ 65536)
power k h =
    let p = pow_mono {i = k} {j = 16} h in
    let q = pow_mono {i = 0} {j = k} (omega arith) in
    (omega arith, omega arith, omega arith)

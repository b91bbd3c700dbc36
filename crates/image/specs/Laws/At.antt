-- What stands at a place of a list of bytes.
use Rattle.std.specs.Prelude.{◌≡◌, ℕ, ◌+◌, ◌/◌, ◌%◌, List, [], ◌∷◌, ◌++◌, length, get_or, take, drop}
use Rattle.std.proofs.Common.{ap, sym, ◌∙◌, arith, get_or-drop, drop-drop, drop_at, take_at}
use Rattle.events.specs.Definition.Records.{u8_at, u16_at}
use Rattle.image.specs.Definition.Image.{u16_bytes, run_at}

-- from `at` on stand the bytes ys, and then zs
pub record At (xs : List ℕ) (at : ℕ) (ys zs : List ℕ) : Type 0 where
  pub is : drop at xs ≡ ys ++ zs

module _ {xs ys zs : List ℕ} {at : ℕ} (p : At xs at ys zs) (n : ℕ) (l : length ys ≡ n) where
  pub run_is : run_at xs at n ≡ ys
  run_is = ap (take n) p.is ∙ take_at ys zs n l

  pub after : drop (at + n) xs ≡ zs
  after = sym (drop-drop n at xs) ∙ ap (drop n) p.is ∙ drop_at ys zs n l

  pub next : {us vs : List ℕ} → zs ≡ us ++ vs → At xs (at + n) us vs
  next e = record { is = after ∙ e }

byte-is : (xs ys : List ℕ) (at i : ℕ) → drop at xs ≡ ys → get_or xs (at + i) 0 ≡ get_or ys i 0
byte-is xs ys at i e = sym (get_or-drop at xs i 0) ∙ ap (λ (l : List ℕ). get_or l i 0) e

pub u8_is : {xs zs : List ℕ} {at v : ℕ} → At xs at (v ∷ []) zs → u8_at xs at ≡ v
u8_is {xs} {zs} {at} {v} p =
    let z : at + 0 ≡ at = omega arith in
    ap (λ (k : ℕ). get_or xs k 0) (sym z) ∙ byte-is xs (v ∷ zs) at 0 p.is

pub u16-is : {xs zs : List ℕ} {at : ℕ} (v : ℕ) → At xs at (u16_bytes v) zs → u16_at xs at ≡ v
u16-is {xs} {zs} {at} v p =
    let z : at + 0 ≡ at = omega arith in
    let a : get_or xs at 0 ≡ v % 256 = ap (λ (k : ℕ). get_or xs k 0) (sym z) ∙ byte-is xs (u16_bytes v ++ zs) at 0 p.is in
    let b : get_or xs (at + 1) 0 ≡ v / 256 = byte-is xs (u16_bytes v ++ zs) at 1 p.is in
    omega arith

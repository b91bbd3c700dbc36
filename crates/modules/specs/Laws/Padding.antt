-- The padding, as one number.
use Rattle.std.specs.Prelude.{◌≡◌, ℕ, ◌+◌, ◌-◌, ◌*◌, ◌/◌, ◌%◌, ◌^◌, ◌<◌, ◌≤◌, true, List, [], ◌∷◌, length, take, drop, ◌==◌, ◌≢◌, nat_eq, refl, Ok, Err}
use Rattle.std.proofs.Common.{sym, ◌∙◌, arith, ne_eqb, pow_mono}
use Rattle.modules.specs.Definition.Bits.{Bit, O, I, bits_in, number_of}
use Rattle.modules.specs.Definition.Reading.{Break}
use Rattle.modules.specs.Definition.Judging.{zeros, judged_at}
use Rattle.modules.specs.Within.Windows.{Window}
use Rattle.modules.specs.Laws.Numbers.{number-from}
use Rattle.modules.specs.Laws.Positions.{number_at, rest-length}
use Rattle.modules.specs.declared.Refusal.TheVariants.{Module}

-- bits are all zero exactly if their number is
zeros-number : (bits : List Bit) → (number_of 0 bits == 0) ≡ zeros bits
zeros-number [] = refl
zeros-number (O ∷ bits) = zeros-number bits
zeros-number (I ∷ bits) =
    let e = number-from 1 bits in
    let p = pow_mono {i = 0} {j = length bits} (omega arith) in
    ne_eqb (number_of 1 bits) 0 (λ q. omega arith)

-- what the end item is judged to be; its byte ends at `end`, and `x` is what stands before that in four bytes held
module _ (seen : List ℕ) (at end held x : ℕ) (low : at ≤ 8 * length seen) (from : at ≤ end) (to : end < at + 8) (whole : end % 8 ≡ 0) (w : Window seen (at / 8) held)
    (e : x ≡ held / 2 ^ (8 * (at / 8) + 32 - end) % 2 ^ (end - at)) where
  abbrev rest : List Bit
  rest = drop at (bits_in seen)

  number : x ≡ number_of 0 (take (end - at) rest)
  number = e ∙ number_at seen (at / 8) at (end - at) (omega arith) (omega arith) (omega arith) held _ w (omega arith)

  padding : nat_eq x 0 ≡ zeros (take (length rest % 8) rest)
  padding =
      let l = rest-length seen at in
      let k : length rest % 8 ≡ end - at = omega arith in
      rw (k, number) (zeros-number (take (end - at) rest))

  pub ended-whole : x ≡ 0 → Ok (end / 8) ≡ judged_at (length seen) (Break.end rest)
  ended-whole z =
      let l = rest-length seen at in
      let b : length seen - length rest / 8 ≡ end / 8 = omega arith in
      let t : zeros (take (length rest % 8) rest) ≡ true = sym padding ∙ rw z in
      rw (t, b)

  pub ended-bad : (x ≢ 0) → Err Module ≡ judged_at (length seen) (Break.end rest)
  ended-bad z = rw (sym padding ∙ ne_eqb x 0 z)

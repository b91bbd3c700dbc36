-- Bits in eights are bytes, and each gives the other back; how many bytes a module has.
use Rattle.std.specs.Prelude.{◌≡◌, refl, List, [], ◌∷◌, ◌++◌, ℕ, zero, suc, ◌+◌, ◌*◌, ◌/◌, take, drop}
use Rattle.std.proofs.Math.Path.{sym, ap}
use Rattle.std.proofs.Common.{ap₂, ◌∙◌, length-append, length-drop, take-append-drop, length-take-le, take_at, drop_at}
use native.Mathlib.Omega.{arith}
use Rattle.std.proofs.Math.ListN.{length}
use Rattle.std.proofs.lemmas.List.{length-replicate}
use Rattle.modules.specs.Definition.Bits.{Bit, bits_of, number_of, bits_in}
use Rattle.modules.specs.Definition.Items.{all_bits}
use Rattle.modules.specs.Laws.Numbers.{bits-length, number-back, bits_back, number_fits, bytes-length, bytes-cons, bytes-none}
use Rattle.modules.specs.declared.Item.{Item}
use Rattle.writer.specs.Definition.Bytes.{padding_for, module_bits, bytes_of, module_of, AllBytes}

of_length : (n : ℕ) (bits : List Bit) → length (bytes_of n bits) ≡ n
unfolding bytes_of
of_length zero bits = refl
of_length (suc n) bits = ap suc (of_length n (drop 8 bits))

-- whole bytes of bits have these bits
bits_in_lem : (n : ℕ) (bits : List Bit) → length bits ≡ 8 * n → bits_in (bytes_of n bits) ≡ bits
unfolding bytes_of
bits_in_lem zero [] e = bytes-none
bits_in_lem zero (b ∷ bits) e = absurd (omega arith)
bits_in_lem (suc n) bits e =
    let eight : length (take 8 bits) ≡ 8 = length-take-le 8 bits (omega arith) in
    let less : length (drop 8 bits) ≡ 8 * n = length-drop 8 bits ∙ omega arith in
    bytes-cons (number_of 0 (take 8 bits)) (bytes_of n (drop 8 bits))
    ∙ ap₂ (λ (a b : List Bit). a ++ b) (bits_back 8 (take 8 bits) eight) (bits_in_lem n (drop 8 bits) less)
    ∙ take-append-drop 8 bits

-- and bytes are those of their bits
pub bytes_back : (bytes : List ℕ) → AllBytes bytes → bytes_of (length bytes) (bits_in bytes) ≡ bytes
unfolding bytes_of
bytes_back [] small = refl
bytes_back (x ∷ bytes) small =
    rw (bytes-cons x bytes, take_at (bits_of 8 x) (bits_in bytes) 8 (bits-length 8 x), drop_at (bits_of 8 x) (bits_in bytes) 8 (bits-length 8 x), number-back 8 x small.0)
    (ap (λ (l : List ℕ). x ∷ l) (bytes_back bytes small.1))

of-small : (n : ℕ) (bits : List Bit) → length bits ≡ 8 * n → AllBytes (bytes_of n bits)
unfolding bytes_of
of-small zero bits e = tt
of-small (suc n) bits e = (
  number_fits 8 (take 8 bits) (length-take-le 8 bits (omega arith)),
  of-small n (drop 8 bits) (length-drop 8 bits ∙ omega arith),
)

-- ---- a module's bits

module _ (items : List Item) where
  bits-size : length (module_bits items) ≡ length (all_bits items) + 3 + padding_for (length (all_bits items) + 3)
  bits-size = simp (length-append, length-replicate) (omega arith)

  whole : length (module_bits items) ≡ 8 * (length (module_bits items) / 8)
  whole = let e = bits-size in omega arith

  -- "the items' bits and the end item's three, rounded up to whole bytes"
  pub module-size : length (module_of items) ≡ (length (all_bits items) + 3 + 7) / 8
  unfolding module_of
  module-size = let e = bits-size in of_length (length (module_bits items) / 8) (module_bits items) ∙ omega arith

  pub module-bits : bits_in (module_of items) ≡ module_bits items
  unfolding module_of
  module-bits = bits_in_lem (length (module_bits items) / 8) (module_bits items) whole

  pub module-small : AllBytes (module_of items)
  unfolding module_of
  module-small = of-small (length (module_bits items) / 8) (module_bits items) whole

  -- bytes with these bits are the module's
  pub module-is : (bytes : List ℕ) → AllBytes bytes → bits_in bytes ≡ module_bits items → bytes ≡ module_of items
  unfolding module_of
  module-is bytes small e =
      let n : length (module_bits items) / 8 ≡ length bytes = omega (arith, bytes-length bytes, ap length e) in
      sym (bytes_back bytes small) ∙ rw (e, n)

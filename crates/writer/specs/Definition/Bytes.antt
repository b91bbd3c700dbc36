-- The bytes of a module: its items' bits, the end item's, and zeros up to a whole byte.
use Rattle.std.specs.Prelude.{List, [], ◌∷◌, ◌++◌, ℕ, zero, suc, ◌+◌, ◌-◌, ◌/◌, ◌%◌, ◌<◌, length, take, drop, replicate}
use Rattle.modules.specs.Definition.Bits.{Bit, O, number_of}
use Rattle.modules.specs.Definition.Items.{end_bits, all_bits}
use Rattle.modules.specs.declared.Item.{Item}

-- order 9: "zero padding": how many zeros fill the last byte of n bits
abbrev pub padding_for : (n : ℕ) → ℕ
padding_for n = (8 - n % 8) % 8

-- "a list of items .., the end item and zero padding"
abbrev pub module_bits : List Item → List Bit
module_bits items = all_bits items ++ (end_bits ++ replicate (padding_for (length (all_bits items) + 3)) O)

-- n bytes of some bits, eight a byte, the first of them its highest
unfoldable pub bytes_of : (n : ℕ) → List Bit → List ℕ
bytes_of zero bits = []
bytes_of (suc n) bits = number_of 0 (take 8 bits) ∷ bytes_of n (drop 8 bits)

unfoldable pub module_of : List Item → List ℕ
unfolding bytes_of
module_of items = bytes_of (length (module_bits items) / 8) (module_bits items)

-- every element is a byte
abbrev pub AllBytes : List ℕ → Type 0
AllBytes [] = Unit {0}
AllBytes (x ∷ xs) = (x < 256) × AllBytes xs

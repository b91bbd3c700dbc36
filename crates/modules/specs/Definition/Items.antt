-- An item is its bits; a module is items, the end item and zero padding.
use Rattle.std.specs.Prelude.{◌≡◌, ℕ, ◌<◌, ◌≤◌, List, [], ◌∷◌, ◌++◌, length, take, replicate}
use Rattle.modules.specs.Definition.Bits.{Bit, O, I, bits_of, bits_in}
use Rattle.modules.specs.declared.Item.{Item}
use Rattle.modules.specs.declared.Item.TheVariants.{Byte, Word, SetPage, Restore, Move}

-- order 3: "0 then 8 bits stores a byte; 100 then 16 stores a word; 10100 then 2 sets the run page; 10101 restores it; 1011 then 16 moves the counter"
unfoldable pub item_bits : Item → List Bit
unfolding bits_of
item_bits (Byte x) = O ∷ bits_of 8 x
item_bits (Word x) = I ∷ O ∷ O ∷ bits_of 16 x
item_bits (SetPage page) = I ∷ O ∷ I ∷ O ∷ O ∷ bits_of 2 page
item_bits Restore = I ∷ O ∷ I ∷ O ∷ I ∷ []
item_bits (Move x) = I ∷ O ∷ I ∷ I ∷ bits_of 16 x

-- "110 ends; 111 is illegal"
abbrev pub end_bits : List Bit
end_bits = I ∷ I ∷ O ∷ []

abbrev pub illegal_bits : List Bit
illegal_bits = I ∷ I ∷ I ∷ []

-- an item's number has no bit beyond its own
abbrev pub Fits : Item → Type 0
Fits (Byte x) = x < 256
Fits (Word x) = x < 65536
Fits (SetPage page) = page < 4
Fits Restore = Unit {0}
Fits (Move x) = x < 65536

abbrev pub AllFit : List Item → Type 0
AllFit [] = Unit {0}
AllFit (item ∷ items) = Fits item × AllFit items

abbrev pub all_bits : List Item → List Bit
all_bits [] = []
all_bits (item ∷ items) = item_bits item ++ all_bits items

-- the first b bytes of a stream are these items, the end item and less than a byte of zeros: "Padding must be zero"
pub record IsModule (stream : List ℕ) (items : List Item) (b : ℕ) : Type 0 where
  pub fit : AllFit items
  pub within : b ≤ length stream
  pub padding : ℕ
  pub less : padding < 8
  pub bits : bits_in (take b stream) ≡ all_bits items ++ (end_bits ++ replicate padding O)

-- The bits of a list, item by item.
use Rattle.std.specs.Prelude.{◌≡◌, ◌≢◌, List, [], ◌∷◌, ◌++◌, ℕ, zero, suc, ◌+◌, ◌*◌, ◌%◌, ◌≤◌, ◌<◌, length}
use Rattle.std.proofs.Common.{refl, sym, ap, ◌∙◌, append_assoc, append-nil, arith, length-append}
use Rattle.modules.specs.Definition.Bits.{Bit}
use Rattle.modules.specs.Definition.Items.{item_bits, all_bits}
use Rattle.modules.specs.declared.Item.{Item}
use Rattle.modules.specs.declared.Item.TheVariants.{Restore}
use Rattle.writer.specs.Within.Entries.{item_in, items_of, items_and_left_over}
use Rattle.writer.specs.Within.Codes.{width_of}
use Rattle.writer.specs.Laws.Entries.{Cuts, Takes, items-next, items_none, over-next, over_none, left_over, over-is}
use Rattle.writer.specs.Laws.Numbers.{item-width}

-- of either way to read a list, where it reads an item and then the rest
module _ (read : List ℕ → List Item) {bytes rest : List ℕ} (i : Item) (e : read bytes ≡ i ∷ read rest) where
  read-next : all_bits (read bytes) ≡ item_bits i ++ all_bits (read rest)
  read-next = ap all_bits e

  -- bits before them
  module _ (bits all : List Bit) (q : bits ++ all_bits (read bytes) ≡ all) where
    read-more : (bits ++ item_bits i) ++ all_bits (read rest) ≡ all
    read-more = append_assoc bits (item_bits i) (all_bits (read rest)) ∙ ap (λ (l : List Bit). bits ++ l) (sym read-next) ∙ q

    read-fits : length bits + length (item_bits i) ≤ length all
    read-fits = omega (arith, ap length read-more, length-append (bits ++ item_bits i) (all_bits (read rest)), length-append bits (item_bits i))

module _ {bytes entry rest : List ℕ} (t : Takes bytes entry rest) (i : Item) (e : i ≡ item_in entry) where
  taken : items_of bytes ≡ i ∷ items_of rest
  taken = items-next t ∙ rw (← e)

  pub bits-next : all_bits (items_of bytes) ≡ item_bits i ++ all_bits (items_of rest)
  bits-next = read-next items_of i taken

  pub size-next : (w : ℕ) → w ≡ width_of i → length (all_bits (items_of bytes)) ≡ w + length (all_bits (items_of rest))
  size-next w q = ap length bits-next ∙ length-append (item_bits i) (all_bits (items_of rest)) ∙ rw (item-width i, q)

  -- bits before them
  module _ (bits all : List Bit) (q : bits ++ all_bits (items_of bytes) ≡ all) where
    pub bits-more : (bits ++ item_bits i) ++ all_bits (items_of rest) ≡ all
    bits-more = read-more items_of i taken bits all q

    pub piece-fits : length bits + length (item_bits i) ≤ length all
    piece-fits = read-fits items_of i taken bits all q

none-behind : (bits all : List Bit) {behind : List Bit} → behind ≡ [] → bits ++ behind ≡ all → bits ≡ all
none-behind bits all e q = sym (append-nil bits) ∙ ap (λ (l : List Bit). bits ++ l) (sym e) ∙ q

pub bits-last : (bytes : List ℕ) → length bytes < 3 → all_bits (items_of bytes) ≡ []
bits-last bytes h = ap all_bits (items_none bytes h)

pub bits-all : (bytes : List ℕ) (bits all : List Bit) → length bytes < 3 → bits ++ all_bits (items_of bytes) ≡ all → bits ≡ all
bits-all bytes bits all h q = none-behind bits all (bits-last bytes h) q

-- an item has at most 7 bits for each of its bytes
pub width-few : (entry : List ℕ) (w : ℕ) → 0 < length entry → w ≤ 20 → w ≡ width_of (item_in entry) → w ≤ 7 * length entry
width-few [] w some few e = absurd (omega arith)
width-few (x ∷ []) w some few e = omega arith
width-few (x ∷ y ∷ []) w some few e = omega arith
width-few (x ∷ y ∷ z ∷ entry) w some few e = omega arith

-- ---- and with what is left over

module _ {bytes entry rest : List ℕ} (c : Cuts bytes entry rest) (i : Item) (e : i ≡ item_in entry) where
  over-taken : items_and_left_over bytes ≡ i ∷ items_and_left_over rest
  over-taken = over-next c ∙ rw (← e)

  module _ (bits all : List Bit) (q : bits ++ all_bits (items_and_left_over bytes) ≡ all) where
    pub over-more : (bits ++ item_bits i) ++ all_bits (items_and_left_over rest) ≡ all
    over-more = read-more items_and_left_over i over-taken bits all q

    pub over-fits : length bits + length (item_bits i) ≤ length all
    over-fits = read-fits items_and_left_over i over-taken bits all q

pub over-last : (bytes : List ℕ) → length bytes ≡ 0 → all_bits (items_and_left_over bytes) ≡ []
over-last bytes z = ap all_bits (over_none bytes z)

pub over-all : (bytes : List ℕ) (bits all : List Bit) → length bytes ≡ 0 → bits ++ all_bits (items_and_left_over bytes) ≡ all → bits ≡ all
over-all bytes bits all z q = none-behind bits all (over-last bytes z) q

bits_append : (xs ys : List Item) → all_bits (xs ++ ys) ≡ all_bits xs ++ all_bits ys
bits_append [] ys = refl
bits_append (x ∷ xs) ys = ap (λ (l : List Bit). item_bits x ++ l) (bits_append xs ys) ∙ sym (append_assoc (item_bits x) (all_bits xs) (all_bits ys))

module _ (bytes : List ℕ) where
  over-bits : all_bits (items_and_left_over bytes) ≡ all_bits (items_of bytes) ++ all_bits (left_over (length bytes % 3))
  over-bits = ap all_bits (over-is bytes) ∙ bits_append (items_of bytes) (left_over (length bytes % 3))

  pub no-fewer : length (all_bits (items_of bytes)) ≤ length (all_bits (items_and_left_over bytes))
  no-fewer = omega (arith, ap length over-bits, length-append (all_bits (items_of bytes)) (all_bits (left_over (length bytes % 3))))

  pub none-over : length bytes % 3 ≡ 0 → all_bits (items_of bytes) ≡ all_bits (items_and_left_over bytes)
  none-over z = sym (over-bits ∙ rw z (append-nil (all_bits (items_of bytes))))

  pub some-over : (length bytes % 3 ≢ 0) → all_bits (items_of bytes) ++ item_bits Restore ≡ all_bits (items_and_left_over bytes)
  some-over h = sym (over-bits ∙ ap (λ (l : List Bit). all_bits (items_of bytes) ++ l) (some (length bytes % 3) h))
    where
      some : (n : ℕ) → (n ≢ 0) → all_bits (left_over n) ≡ item_bits Restore
      some zero h = absurd (h refl)
      some (suc n) h = append-nil (item_bits Restore)

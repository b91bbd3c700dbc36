-- How the reader holds an item's bits: as a number behind a leading 1.
use Rattle.std.specs.Prelude.{ℕ, ◌+◌, ◌*◌, ◌%◌, ◌^◌, ◌<◌, ◌≤◌, cond, ◌==◌, nat_lt}
use Rattle.modules.specs.Definition.Bits.{Bit, O, I}
use Rattle.modules.specs.declared.Item.{Item}
use Rattle.modules.specs.declared.Item.TheVariants.{Byte, Word, SetPage, Restore, Move}

-- the bits so far with one more
abbrev pub with_bit : (code : ℕ) → Bit → ℕ
with_bit code O = 2 * code
with_bit code I = 2 * code + 1

-- how many bits are still wanted. No item has less than three: `0xx`, of a byte, is 8 to 11 and wants six more, `100` is 12, `101` is 13; behind it `10100` is 52, and
-- `10110` and `10111`, of a move, are 54 and 55
unfoldable pub wants : (code left : ℕ) → ℕ
wants code left =
    cond (nat_lt 0 left) left
    (cond (nat_lt code 12) 6
    (cond (code == 12) 16
    (cond (code == 13) 2
    (cond (code == 52) 2
    (cond (code == 54) 15
    (cond (code == 55) 15 0))))))

-- the item of all its bits, where they are neither the end item's (`110` is 14) nor illegal (`111` is 15): `10101` is 53, a page is from 208, a byte from 512,
-- a word from 786,432 and a move from 1,769,472 on
unfoldable pub item_of : (code : ℕ) → Item
item_of code =
    cond (code == 53) Restore
    (cond (nat_lt code 256) (SetPage (code % 4))
    (cond (nat_lt code 768) (Byte (code % 256))
    (cond (nat_lt code 851968) (Word (code % 65536)) (Move (code % 65536)))))

-- an item of which so many bits are taken has a code with its leading 1 before them; where it wants more, the code is one of these
pub record Coded (taken code left : ℕ) : Type 0 where
  pub leads : 2 ^ taken ≤ code
  pub few : left ≤ 16
  pub low : 0 < left → code ≤ 55

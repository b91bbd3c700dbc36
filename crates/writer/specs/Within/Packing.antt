-- What a pen puts: bits in whole bytes, and what is no whole byte yet.
use Rattle.std.specs.Prelude.{◌≡◌, List, ◌++◌, ℕ, ◌+◌, ◌*◌, ◌<◌, ◌≤◌, length}
use Rattle.text.specs.Definition.Put.{Puts}
use Rattle.text.specs.declared.Cursor.{Cursor}
use Rattle.modules.specs.Definition.Bits.{Bit, bits_of, bits_in}
use Rattle.writer.specs.Definition.Bytes.{AllBytes}
use Rattle.writer.specs.declared.Pen.{Pen}
use Rattle.writer.specs.declared.packing.Sheet.{Sheet}

-- where a sheet's pen stands
abbrev pub place : Sheet → Cursor
place s = record { text = s.text; at = s.pen.at }

-- a sheet whose pen holds no bit
abbrev pub first_pen : Cursor → Sheet
first_pen c = record { text = c.text; pen = record { at = c.at; held = 0; count = 0 } }

-- the bits that a pen holds
abbrev pub held_bits : Pen → List Bit
held_bits p = bits_of p.count p.held

-- they are no whole byte
abbrev pub Neat : Pen → Type 0
Neat p = (p.count < 8) × (p.held < 128)

-- n bits find room behind them
abbrev pub RoomFor : Sheet → ℕ → Type 0
RoomFor s n = 8 * s.pen.at + s.pen.count + n ≤ 8 * length s.text.now

-- some bits were put behind those that the pen held, as these bytes, and the others are held
pub record Adds (from to : Sheet) (bits : List Bit) : Type 0 where
  pub bytes : List ℕ
  pub put : Puts (place from) (place to) bytes
  pub small : AllBytes bytes
  pub are : held_bits from.pen ++ bits ≡ bits_in bytes ++ held_bits to.pen
  pub few : to.pen.count < 8
  pub low : to.pen.held < 128

-- What a pen puts: one piece behind the other, a byte a turn, and a whole module.
use Rattle.std.specs.Prelude.{◌≡◌, List, [], ◌∷◌, ◌++◌, ℕ, ◌+◌, ◌-◌, ◌*◌, ◌/◌, ◌%◌, ◌^◌, ◌≤◌, ◌<◌, length, drop}
use Rattle.std.proofs.Common.{sym, ap, ap₂, ◌∙◌, append_assoc, append-nil, mul-le-mul_right, arith, length-append, take-append-drop, pow_mono, shl_exact}
use Rattle.text.specs.Definition.Put.{Put, Puts}
use Rattle.text.specs.declared.Cursor.{Cursor}
use Rattle.text.specs.Laws.Text.{puts_none, puts_then, handed}
use Rattle.modules.specs.Definition.Bits.{Bit, bits_of, bits_in}
use Rattle.modules.specs.Definition.Items.{end_bits, item_bits, all_bits}
use Rattle.modules.specs.Laws.Numbers.{bits-length, bytes-length, bytes-append, bytes-cons, bytes-none}
use Rattle.modules.specs.declared.Item.{Item}
use Rattle.writer.specs.Definition.Bytes.{padding_for, module_bits, module_of, AllBytes}
use Rattle.writer.specs.Within.Codes.{width_of, code_of}
use Rattle.writer.specs.Within.Packing.{place, first_pen, held_bits, Neat, RoomFor, Adds}
use Rattle.writer.specs.Laws.Numbers.{item-bits, bits-mod, bits-split, bits-joined, bits-low, bits-zero}
use Rattle.writer.specs.Laws.Bytes.{module-is}
use Rattle.writer.specs.declared.packing.Sheet.{Sheet}

small-append : (xs ys : List ℕ) → AllBytes xs → AllBytes ys → AllBytes (xs ++ ys)
small-append [] ys a b = b
small-append (x ∷ xs) ys a b = (a.0, small-append xs ys a.1 b)

-- ---- one piece behind the other

pub adds_none : (p : Sheet) → Neat p.pen → Adds p p []
adds_none p neat = record {
  bytes = [];
  put = puts_none (place p);
  small = tt;
  are = append-nil (held_bits p.pen) ∙ rw bytes-none;
  few = neat.0;
  low = neat.1;
}

pub adds_then : {p q r : Sheet} {xs ys : List Bit} → Adds p q xs → Adds q r ys → Adds p r (xs ++ ys)
adds_then {p} {q} {r} {xs} {ys} m n = record {
  bytes = m.bytes ++ n.bytes;
  put = puts_then m.put n.put;
  small = small-append m.bytes n.bytes m.small n.small;
  are =
      sym (append_assoc (held_bits p.pen) xs ys) ∙ ap (λ (l : List Bit). l ++ ys) m.are ∙ append_assoc (bits_in m.bytes) (held_bits q.pen) ys
      ∙ ap (λ (l : List Bit). bits_in m.bytes ++ l) n.are ∙ sym (append_assoc (bits_in m.bytes) (bits_in n.bytes) (held_bits r.pen))
      ∙ rw (bytes-append m.bytes n.bytes);
  few = n.few;
  low = n.low;
}

pub adds-as : {p q : Sheet} {xs ys : List Bit} → xs ≡ ys → Adds p q xs → Adds p q ys
adds-as e m = rw (← e) m

-- how far the pen is
pub adds-size : {p q : Sheet} {xs : List Bit} → Adds p q xs → 8 * q.pen.at + q.pen.count ≡ 8 * p.pen.at + p.pen.count + length xs
adds-size {p} {q} {xs} m =
    omega (
      arith,
      m.put.put.stop,
      sym (length-append (held_bits p.pen) xs) ∙ ap length m.are ∙ length-append (bits_in m.bytes) (held_bits q.pen),
      bytes-length m.bytes,
      bits-length p.pen.count p.pen.held,
      bits-length q.pen.count q.pen.held,
    )

pub adds-bits : {p q : Sheet} (width code : ℕ) → Adds p q (bits_of width code) → 8 * q.pen.at + q.pen.count ≡ 8 * p.pen.at + p.pen.count + width
adds-bits width code m = omega (arith, adds-size m, bits-length width code)

-- what room is left behind bits that are put
pub bits-left : {p q : Sheet} {xs : List Bit} → Adds p q xs → (n : ℕ) → RoomFor p (length xs + n) → RoomFor q n
bits-left m n room = omega (arith, adds-size m, m.put.put.stop, room, m.put.long)

-- ---- a byte a turn

-- of the lowest `all` bits of a number these bytes are put, and the lowest `count` are left
pub record Turns (from to : Cursor) (held all count : ℕ) : Type 0 where
  pub bytes : List ℕ
  pub put : Puts from to bytes
  pub small : AllBytes bytes
  pub are : bits_of all held ≡ bits_in bytes ++ bits_of count held

pub turns-none : (c : Cursor) (held all : ℕ) → Turns c c held all all
turns-none c held all = record { bytes = []; put = puts_none c; small = tt; are = rw bytes-none }

pub turns_more : {a b d : Cursor} {held all count byte : ℕ} (less : ℕ) → 8 ≤ count → less ≡ count - 8 → byte ≡ held / 2 ^ less % 256
    → Turns a b held all count → Puts b d (byte ∷ []) → Turns a d held all less
turns_more {held = held} {all = all} {count = count} {byte = byte} less h e f t p =
    let s : count ≡ 8 + less = omega arith in
    let top : bits_of 8 (held / 2 ^ less) ≡ bits_of 8 byte = sym (bits-mod 8 (held / 2 ^ less)) ∙ rw f in
    let one : bits_of 8 byte ≡ bits_in (byte ∷ []) = sym (bytes-cons byte [] ∙ rw bytes-none (append-nil (bits_of 8 byte))) in
    record {
      bytes = t.bytes ++ (byte ∷ []);
      put = puts_then t.put p;
      small = small-append t.bytes (byte ∷ []) t.small (omega arith, tt);
      are =
          t.are ∙ ap (λ (l : List Bit). bits_in t.bytes ++ l) (ap (λ (n : ℕ). bits_of n held) s ∙ bits-split 8 less held ∙ ap (λ (l : List Bit). l ++ bits_of less held) (top ∙ one))
          ∙ sym (append_assoc (bits_in t.bytes) (bits_in (byte ∷ [])) (bits_of less held)) ∙ rw (bytes-append t.bytes (byte ∷ []));
    }

-- at last less than a byte is left
pub turns-add : {to : Cursor} {held count : ℕ} (p : Sheet) (code width : ℕ) → code < 2 ^ width → held ≡ p.pen.held * 2 ^ width + code → count < 8
    → Turns (place p) to held (p.pen.count + width) count
    → Adds p (record { text = to.text; pen = record { at = to.at; held = held % 128; count = count } }) (bits_of width code)
turns-add {held = held} {count = count} p code width h e few t = record {
  bytes = t.bytes;
  put = t.put;
  small = t.small;
  are = sym (bits-joined p.pen.count width p.pen.held code h) ∙ rw (← e) (t.are ∙ ap (λ (l : List Bit). bits_in t.bytes ++ l) (sym (bits-low count 7 held (omega arith))));
  few = few;
  low = omega arith;
}

-- a few bits fit behind those held, in 64
pub shifted : (held width : ℕ) → held < 128 → width ≤ 20 → held * 2 ^ width % 18446744073709551616 ≡ held * 2 ^ width
shifted held width h w = shl_exact {a = held} 7 width 64 h (omega arith)

pub shifted-few : (held code width : ℕ) → held < 128 → width ≤ 20 → code < 2 ^ width → held * 2 ^ width % 18446744073709551616 + code ≤ 134217728
shifted-few held code width h w k =
    let p : 2 ^ width ≤ 1048576 = pow_mono {i = width} {j = 20} w in
    let m : held * 2 ^ width ≤ 127 * 2 ^ width = mul-le-mul_right (2 ^ width) (omega arith) in
    omega (arith, shifted held width h w)

-- ---- an item

pub adds-item : {p q : Sheet} (i : Item) (code width : ℕ) → code ≡ code_of i → width ≡ width_of i → Adds p q (bits_of width code) → Adds p q (item_bits i)
adds-item i code width e f m = rw (item-bits i, ← e, ← f) m

-- ---- a whole module

pub put_whole : {c : Cursor} {q : Sheet} {after : List ℕ} (items : List Item) → (n : ℕ) → c.at ≡ 0 → n ≡ padding_for (length (all_bits items) + 3)
    → Adds (first_pen c) q ((all_bits items ++ bits_of 3 6) ++ bits_of n 0) → q.pen.count ≡ 0 → (c.text.ghost_name ≡ q.text.ghost_name → after ≡ q.text.now)
    → after ≡ module_of items ++ drop (length (module_of items)) c.text.now
unfolding bits_of
put_whole {c} {q} {after} items n front e m z back =
    let are : bits_in m.bytes ≡ module_bits items =
    sym (append-nil (bits_in m.bytes)) ∙ sym (m.are ∙ rw z) ∙ append_assoc (all_bits items) end_bits (bits_of n 0)
    ∙ ap (λ (l : List Bit). all_bits items ++ (end_bits ++ l)) (bits-zero n ∙ rw e)
    in
    let same : m.bytes ≡ module_of items = module-is items m.bytes m.small are in
    let p : Put c.text.now after 0 q.pen.at m.bytes = rw front at (handed m.put back) in
    let stop : q.pen.at ≡ length (module_of items) = p.stop ∙ rw (← same) (omega arith) in
    sym (take-append-drop q.pen.at after) ∙ ap₂ (λ (x y : List ℕ). x ++ y) (p.text ∙ same) (p.behind ∙ rw stop)

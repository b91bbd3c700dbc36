-- That each promise of this crate has at most one outcome; of a sheet, but for what its pen's number holds above its bits.
use Rattle.std.specs.Prelude.{◌≡◌, refl, List, ◌++◌, ℕ, ◌+◌, ◌*◌, length, take, drop, Result}
use Rattle.std.proofs.Common.{sym, ap, ap₂, ◌∙◌, arith, length-append, take_at, drop_at}
use Rattle.text.specs.Laws.One.{one-puts}
use Rattle.modules.specs.Definition.Bits.{Bit, bits_in}
use Rattle.modules.specs.Laws.Numbers.{bits-length, bytes-length}
use Rattle.writer.specs.Definition.Bytes.{bytes_of}
use Rattle.writer.specs.Definition.Writing.{Writes, WritesFrom}
use Rattle.writer.specs.Within.Packing.{place, held_bits, Adds}
use Rattle.writer.specs.Laws.Bytes.{bytes_back}
use Rattle.writer.specs.declared.packing.Sheet.{Sheet}
use Rattle.writer.specs.declared.Refusal.{Refusal}

pub one_written : {page offset : ℕ} {items buffer : List ℕ} {r r' : Result ℕ Refusal} {after after' : List ℕ} → Writes page offset items buffer r after → Writes page offset items buffer r' after'
    → (r ≡ r') × (after ≡ after')
one_written w v = (w.reply-is ∙ sym v.reply-is, w.buffer-is ∙ sym v.buffer-is)

pub one-written-from : {input buffer : List ℕ} {r r' : Result ℕ Refusal} {after after' : List ℕ} → WritesFrom input buffer r after → WritesFrom input buffer r' after'
    → (r ≡ r') × (after ≡ after')
one-written-from w v = (w.reply-is ∙ sym v.reply-is, w.buffer-is ∙ sym v.buffer-is)

-- what a sheet holds once bits are put
pub one-adds : {p q q' : Sheet} {xs : List Bit} → Adds p q xs → Adds p q' xs
    → (q.text.now ≡ q'.text.now) × (q.pen.at ≡ q'.pen.at) × (q.pen.count ≡ q'.pen.count) × (held_bits q.pen ≡ held_bits q'.pen)
one-adds {p} {q} {q'} m n =
    let both : bits_in m.bytes ++ held_bits q.pen ≡ bits_in n.bytes ++ held_bits q'.pen = sym m.are ∙ n.are in
    let sizes : 8 * length m.bytes + q.pen.count ≡ 8 * length n.bytes + q'.pen.count =
    omega (
      arith,
      ap length both,
      length-append (bits_in m.bytes) (held_bits q.pen),
      length-append (bits_in n.bytes) (held_bits q'.pen),
      bytes-length m.bytes,
      bytes-length n.bytes,
      bits-length q.pen.count q.pen.held,
      bits-length q'.pen.count q'.pen.held,
    )
    in
    let size : length m.bytes ≡ length n.bytes = omega (arith, sizes, m.few, n.few) in
    let bits : length (bits_in m.bytes) ≡ length (bits_in n.bytes) = omega (arith, bytes-length m.bytes, bytes-length n.bytes, size) in
    let k = length (bits_in n.bytes) in
    let put : bits_in m.bytes ≡ bits_in n.bytes =
    sym (take_at (bits_in m.bytes) (held_bits q.pen) k bits) ∙ ap (take k) both ∙ take_at (bits_in n.bytes) (held_bits q'.pen) k refl
    in
    let held : held_bits q.pen ≡ held_bits q'.pen =
    sym (drop_at (bits_in m.bytes) (held_bits q.pen) k bits) ∙ ap (drop k) both ∙ drop_at (bits_in n.bytes) (held_bits q'.pen) k refl
    in
    let bytes : m.bytes ≡ n.bytes = sym (bytes_back m.bytes m.small) ∙ ap₂ bytes_of size put ∙ bytes_back n.bytes n.small in
    let same = one-puts {d' = place q'} m.put (rw bytes n.put) in
    (same.0, same.1, omega (arith, sizes, size), held)

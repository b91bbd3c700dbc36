-- Laws of text put at a place, of numerals and of hexadecimal.
use Rattle.std.specs.Prelude.{◌≡◌, refl, Bool, true, false, List, [], ◌∷◌, ◌++◌, ℕ, zero, suc, ◌+◌, ◌*◌, ◌/◌, ◌%◌, ◌<◌, ◌≤◌, length, get_or, take, drop, set, ◌⊎◌}
use Rattle.std.proofs.Common.{sym, ap, ◌∙◌, append_assoc, append-nil, arith, add-one, length-append, length-take, length-take-le, take-suc-set, take-suc, drop-set-lt, drop-drop, lt-ltb}
use Rattle.std.proofs.lemmas.Bool.{cases_Bool}
use Rattle.text.specs.Definition.Put.{Put, Puts, Room}
use Rattle.text.specs.declared.Cursor.{Cursor}
use Rattle.text.specs.Definition.Text.{digit_of, decimal_in, decimal_of, glyph, hex_of}

pub put-none : (d : List ℕ) (at : ℕ) → Put d d at at []
put-none d at = record { stop = omega arith; text = sym (append-nil (take at d)); behind = refl }

pub put_one : (d : List ℕ) (at b : ℕ) → at < length d → Put d (set d at b) at (at + 1) (b ∷ [])
put_one d at b h = record { stop = refl; text = rw (add-one, take-suc-set); behind = drop-set-lt (at + 1) d at b (omega arith) }

pub put_then : {d e f : List ℕ} {at m r : ℕ} {xs ys : List ℕ} → Put d e at m xs → Put e f m r ys → Put d f at r (xs ++ ys)
put_then {d} {e} {f} {at} {m} {r} {xs} {ys} p q =
    let passed : (l : List ℕ) → drop (length ys) (drop m l) ≡ drop r l = λ l. drop-drop (length ys) m l ∙ ap (λ (k : ℕ). drop k l) (sym q.stop) in
    record {
      stop = rw length-append (omega (arith, p.stop, q.stop));
      text = q.text ∙ rw (p.text, append_assoc);
      behind = q.behind ∙ sym (passed e) ∙ ap (drop (length ys)) p.behind ∙ passed d;
    }

-- what is put ends within the buffer
pub put-within : {d e : List ℕ} {at r : ℕ} {xs : List ℕ} → at ≤ length d → Put d e at r xs → r ≤ length e
put-within {d} {e} {at} {r} {xs} h p = omega (arith, ap length p.text, length-take r e, length-append (take at d) xs, length-take-le at d h, p.stop)

-- of a cursor
pub puts_none : (c : Cursor) → Puts c c []
puts_none c = record { same = refl; long = refl; put = put-none c.text.now c.at }

pub puts_then : {c d e : Cursor} {xs ys : List ℕ} → Puts c d xs → Puts d e ys → Puts c e (xs ++ ys)
puts_then p q = record { same = q.same ∙ p.same; long = q.long ∙ p.long; put = put_then p.put q.put }

pub puts_within : {c d : Cursor} {xs : List ℕ} → Puts c d xs → c.at ≤ length c.text.now → d.at ≤ length d.text.now
puts_within p h = put-within h p.put

-- what room is left behind at most k bytes that are put
pub room-left : {c d : Cursor} {xs : List ℕ} → Puts c d xs → (k n : ℕ) → length xs ≤ k → Room c (k + n) → Room d n
room-left p k n h room = omega (arith, p.put.stop, p.long)

-- what a cursor leaves of the text that it was lent
pub handed : {c d : Cursor} {xs after : List ℕ} → Puts c d xs → (c.text.ghost_name ≡ d.text.ghost_name → after ≡ d.text.now) → Put c.text.now after c.at d.at xs
handed p back = rw (back (sym p.same)) p.put

pub split : (b : Bool) → (b ≡ true) ⊎ (b ≡ false)
split = cases_Bool

pub decimal-one : (n : ℕ) → n < 10 → decimal_of n ≡ digit_of n ∷ []
unfolding decimal_of decimal_in
decimal-one zero h = refl
decimal-one (suc n) h = rw (lt-ltb (suc n) 10 h)

pub hex-append : (xs ys : List ℕ) → hex_of (xs ++ ys) ≡ hex_of xs ++ hex_of ys
hex-append [] ys = refl
hex-append (x ∷ xs) ys = ap (λ (l : List ℕ). glyph (x / 16) ∷ glyph (x % 16) ∷ l) (hex-append xs ys)

pub hex-more : (xs : List ℕ) (i : ℕ) → i < length xs → hex_of (take (i + 1) xs) ≡ (hex_of (take i xs) ++ (glyph (get_or xs i 0 / 16) ∷ [])) ++ (glyph (get_or xs i 0 % 16) ∷ [])
hex-more xs i h = rw (add-one, take-suc xs i 0 h, hex-append, append_assoc)

pub hex-length : (xs : List ℕ) → length (hex_of xs) ≡ 2 * length xs
hex-length [] = refl
hex-length (x ∷ xs) = rw (hex-length xs) (omega arith)

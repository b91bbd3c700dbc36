-- A line, from its parts.
use Rattle.std.specs.Prelude.{◌≡◌, true, false, List, [], ◌∷◌, ℕ, take}
use Rattle.std.proofs.Common.{append-nil}
use Rattle.text.specs.Definition.Put.{Puts}
use Rattle.text.specs.declared.Cursor.{Cursor}
use Rattle.text.specs.Definition.Text.{fields_of, hex_of}
use Rattle.text.specs.Laws.Text.{puts_then}
use Rattle.listing.specs.Definition.Log.{shows_of, line_of}

pub line_plain : {c d e : Cursor} (kind answer a b : ℕ) (out : List ℕ) → shows_of kind answer b ≡ false
    → Puts c d (fields_of kind answer a b) → Puts d e (10 ∷ []) → Puts c e (line_of kind answer a b out)
unfolding line_of
line_plain kind answer a b out s p q = rw (s, append-nil) (puts_then p q)

pub line-hex : {c d e f g : Cursor} (kind answer a b k : ℕ) (out : List ℕ) → shows_of kind answer b ≡ true → take k out ≡ take b out
    → Puts c d (fields_of kind answer a b) → Puts d e (32 ∷ []) → Puts e f (hex_of (take k out)) → Puts f g (10 ∷ [])
    → Puts c g (line_of kind answer a b out)
unfolding line_of
line-hex kind answer a b k out s e p q u v = rw (s, ← e) (puts_then (puts_then p (puts_then q u)) v)

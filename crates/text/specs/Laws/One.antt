-- That each promise of this crate has at most one outcome.
use Rattle.std.specs.Prelude.{◌≡◌, List, ℕ, take, drop}
use Rattle.std.proofs.Common.{sym, ◌∙◌, take-append-drop}
use Rattle.text.specs.declared.Cursor.{Cursor}
use Rattle.text.specs.Definition.Put.{Put, Puts}

-- a buffer is its first n bytes and those behind them
pub one-buffer : (n : ℕ) {xs ys : List ℕ} → take n xs ≡ take n ys → drop n xs ≡ drop n ys → xs ≡ ys
one-buffer n {xs} {ys} front behind = sym (take-append-drop n xs) ∙ rw (front, behind) (take-append-drop n ys)

pub one-put : {before after after' : List ℕ} {at r r' : ℕ} {xs : List ℕ} → Put before after at r xs → Put before after' at r' xs → (after ≡ after') × (r ≡ r')
one-put {before} {after} {after'} {at} {r} {r'} {xs} p q =
    let e : r ≡ r' = p.stop ∙ sym q.stop in
    let s : Put before after' at r xs = rw (← e) at q in
    (one-buffer r (p.text ∙ sym s.text) (p.behind ∙ sym s.behind), e)

-- the same of a cursor
pub one-puts : {c d d' : Cursor} {xs : List ℕ} → Puts c d xs → Puts c d' xs → (d.text.now ≡ d'.text.now) × (d.at ≡ d'.at)
one-puts p q = one-put p.put q.put

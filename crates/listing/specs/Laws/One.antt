-- That each promise of this crate has at most one outcome.
use Rattle.std.specs.Prelude.{◌≡◌, refl, List, ℕ, ◌≤◌, length, drop, Option, Some, None}
use Rattle.std.proofs.Common.{sym, ap, subst, ◌∙◌, arith, length-drop, length-take-le}
use Rattle.kernel.specs.declared.Tables.{Tables}
use Rattle.text.specs.Definition.Put.{Put}
use Rattle.text.specs.declared.Cursor.{Cursor}
use Rattle.text.specs.Laws.One.{one-buffer, one-put}
use Rattle.listing.specs.Definition.Pieces.{Stepped, Mark, Drains, full, more, ends, line, reached, Fills, Lists}
use Rattle.listing.specs.declared.Drained.{Drained}
use Rattle.listing.specs.declared.Stop.{Stop}

pub one-stepped : {t t' t'' : Tables} {ram out body ram' out' ram'' out'' : List ℕ} {kind : ℕ} {to to' to'' : Cursor}
    → Stepped t ram out kind body to t' ram' out' to' → Stepped t ram out kind body to t'' ram'' out'' to''
    → (t' ≡ t'') × (ram' ≡ ram'') × (out' ≡ out'') × (to'.text.now ≡ to''.text.now) × (to'.at ≡ to''.at)
one-stepped p q =
    let (e, u) = one-put p.put.put q.put.put in (p.tables-are ∙ sym q.tables-are, p.ram-is ∙ sym q.ram-is, p.output-is ∙ sym q.output-is, e, u)

-- the mark where the lines stop, and why they do
pub one-stop : {size : ℕ} {m to to' : Mark} {stop stop' : Stop} → Drains size m to stop → Drains size m to' stop' → (to ≡ to') × (stop ≡ stop')
one-stop (full h) (full k) = (refl, refl)
one-stop (full h) (more k f) = absurd (omega arith)
one-stop (full h) (ends k f) = absurd (omega arith)
one-stop (full h) (line k f d) = absurd (omega arith)
one-stop (more h e) (full k) = absurd (omega arith)
one-stop (more h e) (more k f) = (refl, refl)
one-stop (more h e) (ends k f) = absurd (cc (sym e ∙ f))
one-stop (more h e) (line k f d) = absurd (cc (sym e ∙ f))
one-stop (ends h e) (full k) = absurd (omega arith)
one-stop (ends h e) (more k f) = absurd (cc (sym e ∙ f))
one-stop (ends h e) (ends k f) = (refl, refl)
one-stop (ends h e) (line k f d) = absurd (cc (sym e ∙ f))
one-stop (line h e c) (full k) = absurd (omega arith)
one-stop (line h e c) (more k f) = absurd (cc (sym e ∙ f))
one-stop (line h e c) (ends k f) = absurd (cc (sym e ∙ f))
one-stop {m = m} (line {f = a} h e c) (line {f = b} k f d) =
    let q : a ≡ b = cc in
    one-stop c (rw (← q) at d)

same-drained : {t t' : Tables} {taken taken' used used' : ℕ} {stop stop' : Stop} → t ≡ t' → taken ≡ taken' → used ≡ used' → stop ≡ stop'
    → ◌≡◌ {A = Drained} (record { tables = t; taken = taken; used = used; stop = stop }) (record { tables = t'; taken = taken'; used = used'; stop = stop' })
same-drained a b c d = rw (a, b, c, d)

-- all that `drain` leaves
pub one-drained : (m : Mark) (xs text : List ℕ) (r s : Drained) (ram' out' text' ram'' out'' text'' : List ℕ) → length text' ≡ length text''
    → Drains (length text') m (reached r ram' out' xs text') r.stop → r.taken ≤ length xs → r.used ≤ length text' → drop r.used text' ≡ drop r.used text
    → Drains (length text'') m (reached s ram'' out'' xs text'') s.stop → s.taken ≤ length xs → s.used ≤ length text'' → drop s.used text'' ≡ drop s.used text
    → (r ≡ s) × (ram' ≡ ram'') × (out' ≡ out'') × (text' ≡ text'')
one-drained m xs text r s ram' out' text' ram'' out'' text'' l d i h b d' i' h' b' =
    let (e, z) = one-stop d (rw (← l) at d') in
    let k : r.taken ≡ s.taken = omega (arith, ap (λ (x : Mark). length x.left) e, length-drop r.taken xs, length-drop s.taken xs) in
    let u : r.used ≡ s.used = omega (arith, ap (λ (x : Mark). length x.text) e, length-take-le r.used text' h, length-take-le s.used text'' h') in (
      same-drained (ap (λ (x : Mark). x.tables) e) k u z,
      ap (λ (x : Mark). x.ram) e,
      ap (λ (x : Mark). x.output) e,
      one-buffer r.used (rw (← u) at (ap (λ (x : Mark). x.text) e)) (b ∙ sym (rw (← u) at b')),
    )

-- whether the log's text is written, how long it is, and every byte of the text that is lent
pub one-listed : (log text text' text'' : List ℕ) (r s : Option ℕ) → length text' ≡ length text'' → Lists log text text' r → Lists log text text'' s → (r ≡ s) × (text' ≡ text'')
one-listed log text text' text'' (Some n) (Some k) l p q = let (e, u) = one-put p.0 q.0 in (ap Some u, e)
one-listed log text text' text'' (Some n) None l p q = absurd (p.1 q.0.0 (rw l q.0.1))
one-listed log text text' text'' None (Some k) l p q = absurd (q.1 p.0.0 (rw (← l) p.0.1))
one-listed log text text' text'' None None l p q =
    let f : Fills log (length text') q.0.0 = rw l q.0.1 in
    let e : p.0.0 ≡ q.0.0 = (one-stop p.0.1 f).0 in
    (refl, (one-put p.0.2 (subst (λ (m : Mark). Put text text'' 0 (length m.text) m.text) (sym e) q.0.2)).0)

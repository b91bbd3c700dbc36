-- That each promise of this crate has at most one outcome.
use Rattle.std.specs.Prelude.{◌≡◌, List, ℕ}
use Rattle.std.proofs.Common.{sym, ap, ◌∙◌}
use Rattle.kernel.specs.declared.Tables.{Tables}
use Rattle.text.specs.declared.Cursor.{Cursor}
use Rattle.text.specs.Laws.One.{one-buffer, one-put}
use Rattle.stream.specs.Definition.Replies.{Brought, Replied}
use Rattle.stream.specs.declared.Machine.{Machine}

pub one-brought : {ram bytes ram' ram'' : List ℕ} {m n : Machine} → Brought ram bytes m ram' → Brought ram bytes n ram'' → (m ≡ n) × (ram' ≡ ram'')
one-brought {ram} {bytes} {ram'} {ram''} {m} {n} p q =
    let e : m.size ≡ n.size = p.size_is ∙ sym q.size_is in
    let t : m.tables ≡ n.tables = p.tables-is ∙ sym q.tables-is in (
      ap (λ (x : Tables). record { tables = x; size = m.size }) t ∙ ap (λ (x : ℕ). record { tables = n.tables; size = x }) e,
      one-buffer m.size (p.ram-is ∙ sym (rw (← e) at q.ram-is)) (p.behind ∙ sym (rw (← e) at q.behind)),
    )

pub one-replied : {first : ℕ} {t t' t'' : Tables} {ram event out ram' out' ram'' out'' : List ℕ} {to to' to'' : Cursor}
    → Replied first t ram event out to t' ram' out' to' → Replied first t ram event out to t'' ram'' out'' to''
    → (t' ≡ t'') × (ram' ≡ ram'') × (out' ≡ out'') × (to'.text.now ≡ to''.text.now) × (to'.at ≡ to''.at)
one-replied p q =
    (p.tables-is ∙ sym q.tables-is, p.ram-is ∙ sym q.ram-is, p.out-is ∙ sym q.out-is, (one-put p.reply-is.put q.reply-is.put).0, (one-put p.reply-is.put q.reply-is.put).1)

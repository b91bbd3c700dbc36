-- That each promise of this crate has at most one outcome.
use Rattle.std.specs.Prelude.{◌≡◌, Bool, true, false, List, ℕ, eqb, length}
use Rattle.std.proofs.Common.{sym, ◌∙◌}
use Rattle.exos.specs.Definition.Call.{CalledBy, Called}
use Rattle.writer.specs.Definition.Entries.{Listed, all, flawed, listed}
use Rattle.exos.specs.Definition.Replays.{ReplaysBy, Replays}
use Rattle.exos.specs.Definition.Modules.{WritesBy, WritesModule}

module _ (image ram event out reply : List ℕ) {image' ram' out' reply' image'' ram'' out'' reply'' : List ℕ} where
  one-by : (b : Bool) → CalledBy image ram event out reply image' ram' out' reply' b → CalledBy image ram event out reply image'' ram'' out'' reply'' b
      → (image' ≡ image'') × (ram' ≡ ram'') × (out' ≡ out'') × (reply' ≡ reply'')
  one-by true p q = (p.image-is ∙ sym q.image-is, p.ram-is ∙ sym q.ram-is, p.out-is ∙ sym q.out-is, p.reply-is ∙ sym q.reply-is)
  one-by false p q = (p.image-is ∙ sym q.image-is, p.ram-is ∙ sym q.ram-is, p.out-is ∙ sym q.out-is, p.reply-is ∙ sym q.reply-is)

  pub one-called : {r s : Bool} → Called image ram event out reply image' ram' out' reply' r → Called image ram event out reply image'' ram'' out'' reply'' s
      → (r ≡ s) × (image' ≡ image'') × (ram' ≡ ram'') × (out' ≡ out'') × (reply' ≡ reply'')
  one-called {r} {s} p q =
      let e : r ≡ s = p.0 ∙ sym q.0 in
      let (i, m, o, y) = one-by r p.1 (rw (← e) at q.1) in (e, i, m, o, y)

module _ (ram out log reply : List ℕ) {ram' out' reply' ram'' out'' reply'' : List ℕ} {taken taken' : ℕ} where
  one-replay : (b : Bool) → ReplaysBy b ram out log reply ram' out' reply' taken → ReplaysBy b ram out log reply ram'' out'' reply'' taken'
      → (taken ≡ taken') × (ram' ≡ ram'') × (out' ≡ out'') × (reply' ≡ reply'')
  one-replay true p q = (p.taken_is ∙ sym q.taken_is, p.ram-is ∙ sym q.ram-is, p.out-is ∙ sym q.out-is, p.reply-is ∙ sym q.reply-is)
  one-replay false p q = (p.taken_is ∙ sym q.taken_is, p.ram-is ∙ sym q.ram-is, p.out-is ∙ sym q.out-is, p.reply-is ∙ sym q.reply-is)

  pub one-replayed : Replays ram out log reply ram' out' reply' taken → Replays ram out log reply ram'' out'' reply'' taken'
      → (taken ≡ taken') × (ram' ≡ ram'') × (out' ≡ out'') × (reply' ≡ reply'')
  one-replayed = one-replay (eqb (length reply) 10)

module _ (page offset : ℕ) (items buffer reply : List ℕ) {buffer' reply' buffer'' reply'' : List ℕ} {r s : Bool} where
  one-writing : (ten : Bool) (list : Listed) → WritesBy ten list page offset buffer reply buffer' reply' r → WritesBy ten list page offset buffer reply buffer'' reply'' s
      → (r ≡ s) × (buffer' ≡ buffer'') × (reply' ≡ reply'')
  one-writing true (all is) p q = (p.0 ∙ sym q.0, p.1.buffer-is ∙ sym q.1.buffer-is, p.1.reply-is ∙ sym q.1.reply-is)
  one-writing true (flawed f) p q = (p.0 ∙ sym q.0, p.1.buffer-is ∙ sym q.1.buffer-is, p.1.reply-is ∙ sym q.1.reply-is)
  one-writing false list p q = (p.0 ∙ sym q.0, p.1.buffer-is ∙ sym q.1.buffer-is, p.1.reply-is ∙ sym q.1.reply-is)

  pub one-module-written : WritesModule page offset items buffer reply buffer' reply' r → WritesModule page offset items buffer reply buffer'' reply'' s
      → (r ≡ s) × (buffer' ≡ buffer'') × (reply' ≡ reply'')
  one-module-written = one-writing (eqb (length reply) 10) (listed items)

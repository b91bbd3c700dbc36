-- Bytes put one by one, as a load of a module puts them: the last one at an offset stands there.
use Rattle.std.specs.Prelude.{◌≡◌, refl, List, [], ◌∷◌, ◌≢◌, ◌⊎◌, ℕ, ◌-◌, get_or}
use Rattle.std.proofs.Common.{ap, ◌∙◌, inl, inr, arith}
use Rattle.std.proofs.Math.Decide.{ℕ_discrete}
use Rattle.modules.specs.Definition.Counter.{Put}
use Rattle.history.specs.Definition.Runs.{NonePut, LastPut, last, later}
use Rattle.history.specs.Bytes.Patched.{patched, patched_in, patched-not}

-- byte k where bytes were put one by one, and which was `old`
unfoldable pub patched_each : List Put → (k old : ℕ) → ℕ
unfolding patched
patched_each [] k old = old
patched_each (p ∷ puts) k old = patched_each puts k (patched p.offset (p.byte ∷ []) k old)

one-there : (offset x k old : ℕ) → offset ≡ k → patched offset (x ∷ []) k old ≡ x
one-there offset x k old e =
    let z : k - offset ≡ 0 = omega arith in
    patched_in offset (x ∷ []) k old (omega arith) (omega arith) ∙ ap (λ (i : ℕ). get_or (x ∷ []) i 0) z

one-elsewhere : (offset x k old : ℕ) → offset ≢ k → patched offset (x ∷ []) k old ≡ old
one-elsewhere offset x k old n = patched-not offset (x ∷ []) k old (λ a b. n (omega arith))

pub each_none : (k : ℕ) (puts : List Put) → NonePut k puts → (old : ℕ) → patched_each puts k old ≡ old
unfolding patched_each
each_none k [] n old = refl
each_none k (p ∷ puts) (n, ns) old = each_none k puts ns _ ∙ one-elsewhere p.offset p.byte k old n

pub each_last : {k x : ℕ} {puts : List Put} → LastPut k puts x → (old : ℕ) → patched_each puts k old ≡ x
unfolding patched_each
each_last {k = k} (last {p = p} {puts = puts} e n) old = each_none k puts n _ ∙ one-there p.offset p.byte k old e
each_last (later l) old = each_last l _

-- one is the last, or none is put there
pub each-kinds : (k : ℕ) (puts : List Put) → ((x : ℕ) × LastPut k puts x) ⊎ NonePut k puts
each-kinds k [] = inr tt
each-kinds k (p ∷ puts) =
    elim (each-kinds k puts) [
      | inl (x, l) ↦ inl (x, later l)
      | inr n ↦ elim (ℕ_discrete p.offset k) [ yes e ↦ inl (p.byte, last e n) | no e ↦ inr (e, n) ]
    ]

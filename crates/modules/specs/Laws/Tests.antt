-- The tests of one item say what the definition of faults says in propositions.
use Rattle.std.specs.Prelude.{◌≡◌, ℕ, ◌+◌, ◌/◌, ◌<◌, ◌≤◌, Bool, true, false, ◌⊎◌}
use Rattle.std.proofs.Common.{sym, ◌∙◌, inl, inr, ⊎_elim, arith}
use Rattle.std.proofs.lemmas.Bool.{false≢true}
use Rattle.std.proofs.Math.Decide.{dec_le, dec_lt}
use Rattle.rows.specs.Laws.Says.{Says, says-lt, says_eq, says-and, says-or, says-not, says-as, says-true}
use Rattle.line.specs.Definition.Guard.{GuardedByte, guarded}
use Rattle.modules.specs.Definition.Counter.{page_size, landing, size_of}
use Rattle.modules.specs.Definition.Judging.{leaves, outside, above, touches}
use Rattle.modules.specs.Definition.Faults.{Outside, store, move, Above, Touches}
use Rattle.modules.specs.declared.Item.{Item}
use Rattle.modules.specs.declared.Item.TheVariants.{Byte, Word, SetPage, Restore, Move}
use Rattle.modules.specs.declared.Counter.{Counter}
use Rattle.modules.specs.declared.Target.{Target}

-- where a test fails, what it says does not hold
pub says-fails : {b : Bool} {P : Type 0} → Says b P → b ≡ false → ¬ P
says-fails f e = λ p. false≢true (sym e ∙ f.make p)

-- ---- 20 PAGE

outside-by : {c : Counter} {i : Item} → Outside c i → (leaves c i ≡ true) ⊎ ((0 < size_of i) × (page_size < c.offset + size_of i))
outside-by (store p h) = inr (p, h)
outside-by (move h) = inl ((says-not (says_eq _ _)).make h)

leaves-outside : (c : Counter) (i : Item) → leaves c i ≡ true → Outside c i
leaves-outside c (Byte x) e = absurd (false≢true e)
leaves-outside c (Word x) e = absurd (false≢true e)
leaves-outside c (SetPage page) e = absurd (false≢true e)
leaves-outside c Restore e = absurd (false≢true e)
leaves-outside c (Move x) e = move ((says-not (says_eq (landing c x / page_size) c.page)).yes e)

pub outside-says : (c : Counter) (i : Item) → Says (outside c i) (Outside c i)
outside-says c i =
    says-as (says-or (says-true (leaves c i)) (says-and (says-lt 0 (size_of i)) (says-lt page_size (c.offset + size_of i))))
    (⊎_elim (leaves-outside c i) (λ h. store h.0 h.1)) outside-by

-- ---- 13 RANGE

pub above-says : (g : Target) (c : Counter) (i : Item) → Says (above g c i) (Above g c i)
above-says g c i =
    says-as (says-and (says-lt 0 (size_of i)) (says-lt g.reach (c.offset + size_of i))) (λ h. record { stores = h.0; end = h.1 }) (λ a. (a.stores, a.end))

-- ---- 14 GUARD

-- one of n bytes from an offset is guarded
abbrev pub Guarded : (offset n : ℕ) → Type 0
Guarded offset n = (k : ℕ) × (offset ≤ k) × (k < offset + n) × GuardedByte k

-- n bytes from an offset meet the bytes from `low` on and below `high`
meet : (offset n low high : ℕ) → 0 < n → low < high → offset < high → low < offset + n → (k : ℕ) × (offset ≤ k) × (k < offset + n) × (low ≤ k) × (k < high)
meet offset n low high some h a b =
    elim (dec_le offset low) [
      | yes q ↦ (low, q, b, omega arith, h)
      | no q ↦ (offset, omega arith, omega arith, omega arith, a)
    ]

-- the bytes below 3Dh, or those from 3Fh on
abbrev Met : (offset n : ℕ) → Type 0
Met offset n = ((offset < 61) × (48 < offset + n)) ⊎ ((offset < 92) × (63 < offset + n))

met-guarded : (offset n : ℕ) → 0 < n → Met offset n → Guarded offset n
met-guarded offset n some (inl (a, b)) =
    let (k, p, q, l, h) = meet offset n 48 61 some (omega arith) a b in
    (k, p, q, record { from = l; to = omega arith; save = (λ e. omega arith, λ e. omega arith) })
met-guarded offset n some (inr (a, b)) =
    let (k, p, q, l, h) = meet offset n 63 92 some (omega arith) a b in
    (k, p, q, record { from = omega arith; to = omega arith; save = (λ e. omega arith, λ e. omega arith) })

guarded-met : (offset n : ℕ) → Guarded offset n → Met offset n
guarded-met offset n (k, p, q, h) =
    elim (dec_lt k 61) [
      | yes a ↦ inl (omega arith, omega (arith, h.from))
      | no a ↦
          let x : k ≡ 61 → ⊥ = h.save.0 in
          let y : k ≡ 62 → ⊥ = h.save.1 in
          inr (omega (arith, h.to), omega arith)
    ]

pub guarded-says : (row offset n : ℕ) → Says (guarded row offset n) ((row ≡ 0) × Guarded offset n)
guarded-says row offset n =
    says-as
    (says-and (says-and (says_eq row 0) (says-lt 0 n))
    (says-or (says-and (says-lt offset 61) (says-lt 48 (offset + n))) (says-and (says-lt offset 92) (says-lt 63 (offset + n)))))
    (λ ((z, some), m). (z, met-guarded offset n some m)) (λ (z, t). ((z, omega arith), guarded-met offset n t))

pub touches-says : (g : Target) (c : Counter) (i : Item) → Says (touches g c i) (Touches g c i)
touches-says g c i =
    says-as (guarded-says g.row c.offset (size_of i)) (λ (z, (k, a, b, h)). record { zero = z; byte = k; from = a; to = b; guarded = h })
    (λ t. (t.zero, (t.byte, t.from, t.to, t.guarded)))

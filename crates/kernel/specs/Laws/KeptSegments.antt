-- Allocate, free and set user boundary keep good tables.
use Rattle.std.specs.Prelude.{◌≡◌, refl, ℕ, ◌-◌, ◌≤◌, ◌<◌, take, set}
use Rattle.std.proofs.Common.{sym, ◌∙◌, arith, eq-eqb, ne_eqb, length-set, length-take, get_or-set_same, get_or-set_other, get_or-take}
use Rattle.std.proofs.Math.Decide.{dec_le, ℕ_discrete}
use Rattle.rows.specs.Definition.Lists.{at}
use Rattle.rows.specs.Definition.Classes.{FREE, SYSTEM, SHARED, times_held}
use Rattle.rows.specs.Laws.Counts.{tally-some}
use Rattle.rows.specs.Laws.ChainRows.{held-yes, classes-set, exact-set}
use Rattle.kernel.specs.Definition.Tables.{class_at, lowest_free, last_row, with_segments}
use Rattle.kernel.specs.Definition.Line.{boundary_of}
use Rattle.kernel.specs.Definition.Segments.{class_for, granting, sharing_last, freeing, bounding}
use Rattle.kernel.specs.Definition.Good.{Good}
use Rattle.kernel.specs.Laws.Body.{Shares, Body, body, whole, last-known, first-class, body-segments}
use Rattle.kernel.specs.declared.Tables.{Tables}

module _ (t : Tables) (b : Body t) where
  -- the chain's last row: its class is system or shared, and it is not page zero
  last-held : 1 ≤ times_held (class_at t (last_row t))
  last-held =
      let holds = b.chain.holds in
      let most = b.chain.most in
      omega (
        arith,
        b.chain.exact (last_row t) (last-known t b),
        tally-some (last_row t) (take t.held t.chain) (t.held - 1) (omega (arith, length-take t.held t.chain, b.sized.chain))
            (get_or-take t.held t.chain (t.held - 1) 0 (omega arith)),
      )

  last_some : 1 ≤ last_row t
  last_some =
      elim (dec_le 1 (last_row t)) [
        | yes q ↦ q
        | no q ↦ let z : last_row t ≡ 0 = omega arith in absurd (omega (arith, (rw (z, b.classes.page) at last-held)))
      ]

  -- a row with a class is not page zero
  row-some : (row : ℕ) → 1 ≤ class_at t row → 1 ≤ row
  row-some row h = elim (dec_le 1 row) [ yes q ↦ q | no q ↦ let z : row ≡ 0 = omega arith in absurd (omega (arith, b.classes.page, (rw z at h))) ]

  -- a class stored that the chain holds as it held the old one, the user boundary with it
  body-class : (row v user : ℕ) → 1 ≤ row → row < t.segments → FREE ≤ v → v ≤ SHARED → times_held v ≡ times_held (class_at t row)
      → ((r : ℕ) → r < t.segments → at (set t.classes row v) r ≡ SHARED → last_row t ≡ r)
      → ((at (set t.classes row v) (last_row t) ≡ SHARED → ⊥) → user ≡ 0)
      → Body (with_segments t (set t.classes row v) t.held t.chain user)
  body-class row v user p h x y e last none =
      let m = b.list.most in
      body-segments t (set t.classes row v) t.held t.chain user (length-set t.classes row v ∙ b.sized.classes) b.sized.chain
      (classes-set t.segments t.classes row v b.sized.classes m p h x y b.classes)
      (record {
        holds = b.chain.holds;
        most = b.chain.most;
        starts = b.chain.starts;
        rows = b.chain.rows;
        exact = exact-set t.segments t.classes row v b.sized.classes t.chain t.held (omega arith) e b.chain.exact;
        last = last;
        rest = b.chain.rest;
      })
      none b

  -- a class outside the chain for another: free, user, device
  body-outside : (row v : ℕ) → row < t.segments → 1 ≤ class_at t row → times_held (class_at t row) ≡ 0 → FREE ≤ v → v ≤ SHARED → times_held v ≡ 0
      → Body (with_segments t (set t.classes row v) t.held t.chain t.user)
  body-outside row v h s z x y w =
      let cs = t.classes in
      let l = b.sized.classes in
      let m = b.list.most in
      let same : at (set cs row v) row ≡ v = get_or-set_same cs row v 0 (omega arith) in
      let apart : last_row t ≡ row → ⊥ = λ q. omega (arith, z, (rw q at last-held)) in
      body-class row v t.user (row-some row s) h x y (w ∙ sym z)
      (λ r k e. elim (ℕ_discrete r row) [
        | yes q ↦ let f : v ≡ SHARED = sym same ∙ (rw q at e) in absurd (omega (arith, (rw f at w)))
        | no q ↦ b.chain.last r k (sym (get_or-set_other cs row r v 0 q) ∙ e)
      ])
      (λ n. b.none (λ e. n (get_or-set_other cs row (last_row t) v 0 apart ∙ e)))

-- the caller's class stands outside the chain
pub record Outside (class : ℕ) : Type 0 where
  pub some : FREE ≤ class
  pub most : class ≤ SHARED
  pub out : times_held class ≡ 0

pub class-outside : (caller : ℕ) → Outside (class_for caller)
class-outside caller =
    elim (ℕ_discrete caller 0) [
      | yes q ↦ rw (eq-eqb caller 0 q) (record { some = omega arith; most = omega arith; out = refl })
      | no q ↦ rw (ne_eqb caller 0 q) (record { some = omega arith; most = omega arith; out = refl })
    ]

pub granting-keeps : (t : Tables) (caller : ℕ) → Good t → lowest_free t < t.segments → Good (granting t caller)
unfolding granting
granting-keeps t caller g h =
    let b = body t g in
    let row = lowest_free t in
    let free : class_at t row ≡ FREE = first-class t b FREE h in
    let k = class-outside caller in
    whole _ (body-outside t b row (class_for caller) h (omega (arith, free)) (rw free) k.some k.most k.out) g.line g.user.most

pub sharing-keeps : (t : Tables) → Good t → (Shares t → ⊥) → Good (sharing_last t)
unfolding sharing_last
sharing-keeps t g a =
    let b = body t g in
    let cs = t.classes in
    let row = last_row t in
    let three : class_at t row ≡ SYSTEM = held-yes (class_at t row) (last-held t b) a in
    let k : row < t.segments = last-known t b in
    whole _ (body-class t b row SHARED (boundary_of t) (last_some t b) k (omega arith) (omega arith) (rw three)
    (λ r j e. elim (ℕ_discrete r row) [
      | yes q ↦ sym q
      | no q ↦ b.chain.last r j (sym (get_or-set_other cs row r SHARED 0 q) ∙ e)
    ])
    (λ n. absurd (n (get_or-set_same cs row SHARED 0 (omega (arith, g.sized.classes, g.list.most))))))
    g.line (omega arith)

-- freed: a shared segment, and one outside the chain
pub freeing-shared : (t : Tables) (row : ℕ) → Good t → row < t.segments → class_at t row ≡ SHARED → Good (freeing t row)
unfolding freeing
freeing-shared t row g h five =
    let b = body t g in
    let cs = t.classes in
    rw (eq-eqb _ _ five)
    (whole _ (body-class t b row SYSTEM 0 (row-some t b row (omega arith)) h (omega arith) (omega arith) (rw five)
    (λ r j e. elim (ℕ_discrete r row) [
      | yes q ↦ b.chain.last r j (rw q five)
      | no q ↦ b.chain.last r j (sym (get_or-set_other cs row r SYSTEM 0 q) ∙ e)
    ])
    (λ n. refl))
    g.line (omega arith))

pub freeing-outside : (t : Tables) (row : ℕ) → Good t → row < t.segments → Outside (class_at t row) → Good (freeing t row)
unfolding freeing
freeing-outside t row g h k =
    let apart : class_at t row ≡ SHARED → ⊥ = λ e. omega (arith, (rw e at k.out)) in
    rw (ne_eqb _ _ apart)
    (whole _ (body-outside t (body t g) row FREE h k.some k.out (omega arith) (omega arith) refl) g.line g.user.most)

pub bounding-keeps : (t : Tables) (value : ℕ) → Good t → Shares t → value ≤ boundary_of t → Good (bounding t value)
unfolding bounding
bounding-keeps t value g s h =
    whole _ (body-segments t t.classes t.held t.chain value g.sized.classes g.sized.chain g.classes g.chain (λ n. absurd (n s)) (body t g))
    g.line h

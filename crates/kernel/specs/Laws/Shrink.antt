-- The chain shrinks: its last segment given up keeps a body, and so do several; cut to the line's length, the tables are good.
use Rattle.std.specs.Prelude.{◌≡◌, refl, ℕ, zero, suc, ◌-◌, ◌≤◌, ◌<◌, set}
use Rattle.std.proofs.Common.{◌∙◌, not-suc-le-zero, arith, eq-eqb, ne_eqb, length-set, get_or-set_other}
use Rattle.std.proofs.Math.Decide.{ℕ_discrete}
use Rattle.rows.specs.Definition.Lists.{at}
use Rattle.rows.specs.Definition.Classes.{FREE, USER, SYSTEM, SHARED, times_held}
use Rattle.rows.specs.Definition.Sizes.{chain_length}
use Rattle.rows.specs.Laws.Sizes.{length_some}
use Rattle.rows.specs.Laws.ChainRows.{less-classes, less-chain}
use Rattle.kernel.specs.Definition.Tables.{class_at, last_row, with_segments}
use Rattle.kernel.specs.Definition.Line.{total_of, boundary_of, one_less, shrunk}
use Rattle.kernel.specs.Definition.Good.{Good}
use Rattle.kernel.specs.Laws.Body.{Body, whole, body-counted, body-segments, Keeps, keeps-all, keeps_on, keeps-total}
use Rattle.kernel.specs.declared.Tables.{Tables}

-- a body whose user boundary is 0
pub record Less (u : Tables) : Type 0 where
  pub body : Body u
  pub zero : u.user ≡ 0

less_by : (t : Tables) → Body t → 1 < t.held → (v user : ℕ) → FREE ≤ v → v ≤ USER → user ≡ 0
    → Less (with_segments t (set t.classes (last_row t) v) (t.held - 1) (set t.chain (t.held - 1) 0) user)
less_by t b h v user p q z =
    let n = t.segments in
    let cs = t.classes in
    let hb : t.held ≤ 32 = omega (arith, body-counted t b, b.list.most) in
    let out : times_held v ≡ 0 = rw (ne_eqb v SYSTEM (λ e. omega arith), ne_eqb v SHARED (λ e. omega arith)) in
    record {
      body = body-segments t (set cs (last_row t) v) (t.held - 1) (set t.chain (t.held - 1) 0) user (length-set cs (last_row t) v ∙ b.sized.classes)
          (length-set t.chain (t.held - 1) 0 ∙ b.sized.chain)
          (less-classes n cs t.chain t.held b.sized.classes b.sized.chain b.list.most h hb b.classes b.chain v p (omega arith))
          (less-chain n cs t.chain t.held b.sized.classes b.sized.chain b.list.most h hb b.classes b.chain v out (λ e. omega arith))
          (λ _. z) b;
      zero = z;
    }

pub less : (t : Tables) → Body t → 1 < t.held → Less (one_less t)
unfolding one_less
less t b h =
    elim (ℕ_discrete (class_at t (last_row t)) SHARED) [
      | yes q ↦ rw (eq-eqb _ _ q) (less_by t b h USER 0 (omega arith) (omega arith) refl)
      | no q ↦ rw (ne_eqb _ _ q) (less_by t b h FREE t.user (omega arith) (omega arith) (b.none q))
    ]

-- what a chain shorter by k has: its user boundary is no higher, and 0 where a segment was given up
pub record Shrunk (k : ℕ) (t u : Tables) : Type 0 where
  pub body : Body u
  pub user : u.user ≤ t.user
  pub zero : 1 ≤ k → u.user ≡ 0

pub shrunk-body : (k : ℕ) (t : Tables) → Body t → k < t.held → Shrunk k t (shrunk k t)
unfolding shrunk one_less
shrunk-body zero t b h = record { body = b; user = omega arith; zero = λ p. absurd (not-suc-le-zero p) }
shrunk-body (suc k) t b h =
    let l = less t b (omega arith) in
    let r = shrunk-body k (one_less t) l.body (omega arith) in
    record { body = r.body; user = omega (arith, r.user, l.zero); zero = λ p. omega (arith, r.user, l.zero) }

-- what else the tables have when the chain has shrunk by k
pub record Rest (k : ℕ) (t u : Tables) : Type 0 where
  pub keeps : Keeps t u
  pub held : u.held ≡ t.held - k
  pub chain : (i : ℕ) → i < u.held → at u.chain i ≡ at t.chain i

pub shrunk-rest : (k : ℕ) (t : Tables) → Rest k t (shrunk k t)
unfolding shrunk one_less
shrunk-rest zero t = record { keeps = keeps-all t; held = omega arith; chain = λ i h. refl }
shrunk-rest (suc k) t =
    let r = shrunk-rest k (one_less t) in
    record {
      keeps = keeps_on _ _ _ _ r.keeps;
      held = omega (arith, r.held);
      chain = λ i h. r.chain i h ∙ get_or-set_other t.chain (t.held - 1) i 0 0 (λ e. omega (arith, r.held));
    }

-- the chain cut to what the line takes, where the line got no longer
pub cut : (t : Tables) → Body t → chain_length t.room (total_of t) ≤ t.held
    → (chain_length t.room (total_of t) ≡ t.held → t.user ≤ boundary_of t) → Good (shrunk (t.held - chain_length t.room (total_of t)) t)
cut t b h u =
    let c = chain_length t.room (total_of t) in
    let k = t.held - c in
    let some : 1 ≤ c = length_some t.room (total_of t) in
    let s = shrunk-body k t b (omega arith) in
    let r = shrunk-rest k t in
    let total = keeps-total r.keeps in
    whole (shrunk k t) s.body (rw (r.keeps.room, total, r.held) (omega arith))
    (rw (r.keeps.room, total) (elim (ℕ_discrete c t.held) [
      | yes q ↦ omega (arith, s.user, u q)
      | no q ↦ omega (arith, s.zero (omega arith))
    ]))

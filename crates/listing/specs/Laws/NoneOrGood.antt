-- A record keeps the tables that the listing carries.
use Rattle.std.specs.Prelude.{◌≡◌, true, List, ℕ, ◌≤◌, ltb, take, drop}
use Rattle.std.proofs.Common.{sym, ap, ◌∙◌, arith, ltb-true, ne_eqb}
use Rattle.std.proofs.lemmas.Bool.{false≢true}
use Rattle.std.proofs.Math.Logic.{inl, inr}
use Rattle.std.proofs.Math.Decide.{ℕ_discrete}
use Rattle.std.proofs.Math.ListN.{length, length-take}
use Rattle.text.specs.Laws.Text.{split}
use Rattle.kernel.specs.Definition.Answers.{granted}
use Rattle.kernel.specs.Definition.Good.{Good}
use Rattle.kernel.specs.Definition.Start.{no_tables}
use Rattle.kernel.specs.Definition.Step.{completed, step}
use Rattle.kernel.specs.Definition.Tables.{ram_size}
use Rattle.kernel.specs.Laws.Ready.{decided-ready, start-ready}
use Rattle.kernel.specs.declared.Tables.{Tables}
use Rattle.events.specs.Definition.Records.{u16_at, start_in, call_in}
use Rattle.listing.specs.Definition.NoneOrGood.{NoneOrGood, none, good}
use Rattle.listing.specs.Definition.Log.{lent_to, log_step}
use Rattle.listing.specs.Laws.Starts.{before-start, refused-leaves, short-answers}

-- which of the two it is, by the number of segments
pub is_none : (t : Tables) → NoneOrGood t → t.segments ≡ 0 → t ≡ no_tables
is_none t (none e) h = e
is_none t (good g l) h = absurd (omega (arith, g.list.least))

pub is-good : (t : Tables) → NoneOrGood t → (t.segments ≡ 0 → ⊥) → Good t × (t.segments ≤ 4)
unfolding no_tables
is-good t (none e) h = absurd (h (ap (λ (u : Tables). u.segments) e))
is-good t (good g l) h = (g, l)

-- the RAM lent on good tables is theirs
pub lent-theirs : (t : Tables) (kind size : ℕ) → (kind ≡ 256 → ⊥) → t.segments ≤ 4 → lent_to t.segments kind size ≡ ram_size t
unfolding lent_to
lent-theirs t kind size n l = rw (ne_eqb kind 256 n) (omega arith)

lent-size : (ram : List ℕ) (segments kind size : ℕ) → length ram ≡ 65536 → length (take (lent_to segments kind size) ram) ≡ lent_to segments kind size
unfolding lent_to
lent-size ram segments kind size h = rw length-take (omega arith)

module _ (t : Tables) (ram out : List ℕ) (body : List ℕ) (s : length ram ≡ 65536) where
  -- a start that is done
  start-leaves : granted (log_step t ram out 256 body).answer ≡ true → NoneOrGood (log_step t ram out 256 body).tables
  unfolding log_step step completed call_in start_in
  start-leaves d = elim (split (ltb (length body) 2)) [
    | inl e ↦ absurd (false≢true (sym (ap granted (short-answers t ram out body (ltb-true (length body) 2 e))) ∙ d))
    | inr e ↦
        let n = lent_to t.segments 256 (length body) in
        let r = start-ready t (length (take n ram)) (length out) (u16_at body 0) (drop 2 body) (rw e at d) in
        rw e (good r.good (omega (arith, r.size, length-take n ram)))
  ]

  -- any other kind that is done
  other-leaves : (kind : ℕ) → (kind ≡ 256 → ⊥) → NoneOrGood t → granted (log_step t ram out kind body).answer ≡ true → NoneOrGood (log_step t ram out kind body).tables
  unfolding log_step step completed
  other-leaves kind n (none e) d = absurd (false≢true (sym (ap granted (rw (← e) at (before-start ram out kind body n))) ∙ d))
  other-leaves kind n (good g l) d =
      let e = lent-theirs t kind (length body) n l in
      let q = lent-size ram t.segments kind (length body) s in
      let lent = length (take (lent_to t.segments kind (length body)) ram) in
      let r = decided-ready t lent (length out) (call_in kind body) (record { good = g; size = q ∙ e }) in
      good r.good (omega (arith, r.size))

-- a record keeps what is carried: no test of the tables is run for each
pub record-keeps : (t : Tables) (ram out : List ℕ) (kind : ℕ) (body : List ℕ) → length ram ≡ 65536 → NoneOrGood t → NoneOrGood (log_step t ram out kind body).tables
record-keeps t ram out kind body s h = elim (split (granted (log_step t ram out kind body).answer)) [
  | inl d ↦ elim (ℕ_discrete kind 256) [
    | yes e ↦ rw e (start-leaves t ram out body s (rw e at d))
    | no e ↦ other-leaves t ram out body s kind e h d
  ]
  | inr d ↦ rw (refused-leaves t ram out kind body d) h
]

-- Whose the places of a new record were: the system's or, if nothing is shared, in a free segment, and outside the user's part of a shared one.
use Rattle.std.specs.Prelude.{◌≡◌, refl, true, false, ◌⊎◌, ℕ, zero, suc, ◌+◌, ◌-◌, ◌≤◌, ◌<◌, set}
use Rattle.std.proofs.Common.{sym, subst, ◌∙◌, arith, get_or-set_other}
use Rattle.std.proofs.Math.Logic.{inl, inr}
use Rattle.std.proofs.Math.Decide.{ℕ_discrete}
use Rattle.rows.specs.Definition.Lists.{at}
use Rattle.rows.specs.Definition.Classes.{FREE, SYSTEM, SHARED}
use Rattle.rows.specs.Definition.Sizes.{chain_length}
use Rattle.rows.specs.Laws.Counts.{tally-part, Found, last_found}
use Rattle.rows.specs.declared.Channel.{Channel}
use Rattle.line.specs.Definition.Line.{chain_index_of, offset_of}
use Rattle.kernel.specs.Definition.Tables.{class_at, count_of, sharing, with_channels}
use Rattle.kernel.specs.Definition.Line.{total_of, one_more, grown, room_for, opening}
use Rattle.kernel.specs.Definition.Good.{Good}
use Rattle.kernel.specs.Laws.Body.{Shares, Body, body}
use Rattle.kernel.specs.Laws.Changes.{opening-opens}
use Rattle.kernel.specs.Laws.Grow.{more, grown-rest}
use Rattle.kernel.specs.Laws.Room.{shares-no}
use Rattle.kernel.specs.declared.Tables.{Tables}
use Rattle.history.specs.Definition.Places.{in_system, offered, Outside}
use Rattle.history.specs.Bytes.Places.{line-outside}
use Rattle.history.specs.NoMark.Tables.{Growth, none, some, growth, grown-beside}

-- a segment that the chain takes was free
more-class : (t : Tables) → 1 ≤ count_of FREE t → (row : ℕ) → (class_at (one_more t) row ≡ class_at t row) ⊎ (class_at t row ≡ FREE)
unfolding one_more
more-class t h row =
    let f : Found FREE t.classes = last_found FREE t.classes (omega (arith, tally-part FREE t.segments t.classes)) in
    elim (ℕ_discrete row f.place) [
      | yes q ↦ inr (rw q f.here)
      | no q ↦ inl (rw f.is (get_or-set_other t.classes f.place row SYSTEM 0 q))
    ]

grown-class : (k : ℕ) (t : Tables) → Body t → (Shares t → ⊥) → k ≤ count_of FREE t → (row : ℕ) → (class_at (grown k t) row ≡ class_at t row) ⊎ (class_at t row ≡ FREE)
unfolding grown
grown-class zero t b a h row = inl refl
grown-class (suc k) t b a h row =
    let m = more t b a (omega arith) in
    on (grown-class k (one_more t) m.body m.apart (omega (arith, m.free)) row) (more-class t (omega arith) row)
  where
    on : {u v w : ℕ} → (u ≡ v) ⊎ (v ≡ FREE) → (v ≡ w) ⊎ (w ≡ FREE) → (u ≡ w) ⊎ (w ≡ FREE)
    on x (inr f) = inr f
    on (inl e) (inl f) = inl (e ∙ f)
    on (inr e) (inl f) = inr (sym f ∙ e)

module _ (t : Tables) (c : Channel) (g : Good t) (fits : room_for t t.room (total_of t + (16 + c.n)) ≡ true) (good : Good (opening t c)) where
  abbrev u : Tables
  u = opening t c

  grown-so : {k : ℕ} → Growth t k → (row : ℕ) → (class_at (grown k t) row ≡ class_at t row) ⊎ ((class_at t row ≡ FREE) × (sharing t ≡ false))
  unfolding grown
  grown-so (none z) row = inl (rw z)
  grown-so {k} (some s few) row = elim (grown-class k t (body t g) (shares-no t (body t g) s) few row) [ inl e ↦ inl e | inr e ↦ inr (e, s) ]

  class-so : (row : ℕ) → (class_at u row ≡ class_at t row) ⊎ ((class_at t row ≡ FREE) × (sharing t ≡ false))
  unfolding opening
  class-so row = rw (← grown-beside (chain_length t.room (total_of t + (16 + c.n)) - t.held) t _ _) (grown-so (growth t c g fits) row)

  offers : (row : ℕ) → in_system u row ≡ true → offered t row ≡ true
  offers row e = elim (class-so row) [ inl q ↦ rw (← q, e) | inr (q, s) ↦ rw (q, s) ]

  shares : (row : ℕ) → class_at t row ≡ SHARED → class_at u row ≡ SHARED
  shares row e = elim (class-so row) [ inl q ↦ q ∙ e | inr (q, s) ↦ absurd (omega arith) ]

  user-same : u.user ≡ t.user
  unfolding opening
  user-same = (grown-rest (chain_length t.room (total_of t + (16 + c.n)) - t.held) (with_channels t (t.opened + 1) (set t.channels t.opened c))).user

  -- the places of the line after the open, by the tables before it
  pub opened-outside : (p : ℕ) → p < total_of u → Outside t t.room (offered t) (record { row = at u.chain (chain_index_of t.room p); offset = offset_of t.room p })
  opened-outside p h =
      let r = opening-opens t c in
      let row = at u.chain (chain_index_of t.room p) in
      let o : Outside u t.room (in_system u) (record { row = row; offset = offset_of t.room p }) =
      subst (λ (x : ℕ). Outside u x (in_system u) (record { row = at u.chain (chain_index_of x p); offset = offset_of x p })) r.room (line-outside u good p h) in
      record {
        place = record {
          known = rw r.listed.segments at o.place.known;
          chosen = offers row o.place.chosen;
          inside = o.place.inside;
          room = λ e. o.place.room (rw r.listed.segments e);
        };
        outside = λ e. rw user-same at (o.outside (shares row e));
      }

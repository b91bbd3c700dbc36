-- Set user boundary, allocate and free.
use Rattle.std.specs.Prelude.{◌≡◌, Bool, true, false, cond, not, ◌≢◌, ◌⊎◌, ℕ, zero, suc, ◌≤◌, ◌<◌}
use Rattle.std.proofs.Math.Path.{refl}
use Rattle.std.proofs.Common.{inl, inr, ⊎_elim, arith}
use Rattle.std.proofs.Math.Decide.{dec_le, ℕ_discrete}
use Rattle.rows.specs.Definition.Classes.{FREE, SHARED}
use Rattle.rows.specs.Laws.Says.{Says, says-lt, says_eq, says-and, says-or, says-not, says-as}
use Rattle.kernel.specs.Definition.Tables.{class_at, row_of}
use Rattle.kernel.specs.Definition.Good.{Good}
use Rattle.kernel.specs.Definition.Line.{boundary_of}
use Rattle.kernel.specs.Definition.Segments.{class_for, some_free, may_share, may_free}
use Rattle.kernel.specs.Definition.Answers.{granted, Decision}
use Rattle.kernel.specs.Definition.Calls.{set-user-boundary, allocate, free, on_set_user_boundary, on_allocate, on_free}
use Rattle.kernel.specs.Definition.Refusals.{Row, HasClass, InList, GivesBack, user, shared, device, allocate-caller, free-caller, allocate-none, free-owner, bound-none, bound-above}
use Rattle.kernel.specs.declared.Tables.{Tables}
use Rattle.kernel.specs.declared.Answer.TheVariants.{BadCall, NoSegment, NotOwner, BadBoundary}
use Rattle.history.specs.Answers.Lowest.{Below, Lowest, end, rule}
use Rattle.history.specs.Answers.Tests.{says-either}
use Rattle.history.specs.Answers.Numbers.{by_rows, by-none}
use Rattle.history.specs.Answers.Found.{in_list, list-one, some-says}

-- no segment is shared for the caller
abbrev NoShare : Tables → (caller : ℕ) → Type 0
NoShare t caller = (caller ≢ 0) ⊎ (HasClass t SHARED ⊎ (boundary_of t ≡ 0))

-- the segment is in the list, and the caller gives it back
abbrev Own : Tables → (caller segment : ℕ) → Type 0
Own t caller segment = (row : ℕ) × InList t segment row × GivesBack caller (class_at t row)

gives-own : (caller class : ℕ) → caller ≤ 1 → class ≡ class_for caller → GivesBack caller class
gives-own zero class h e = rw e user
gives-own (suc zero) class h e = rw e device
gives-own (suc (suc n)) class h e = absurd (omega arith)

gives-class : {caller class : ℕ} → GivesBack caller class → (class ≡ class_for caller) ⊎ ((caller ≡ 0) × (class ≡ SHARED))
gives-class user = inl refl
gives-class shared = inr (refl, refl)
gives-class device = inl refl

granted-both : (b : Bool) (x y : Decision) → granted x.answer ≡ true → granted y.answer ≡ true → granted (cond b x y).answer ≡ true
granted-both true x y p q = p
granted-both false x y p q = q

module _ {t : Tables} {ram output : ℕ} where
  bound-12 : {value : ℕ} → Row t ram output (set-user-boundary value) 12 → ¬ HasClass t SHARED ⊎ (boundary_of t < value)
  bound-12 (bound-none n) = inl n
  bound-12 (bound-above h) = inr h

  allocate-2 : {caller : ℕ} → Row t ram output (allocate caller) 2 → 1 < caller
  allocate-2 (allocate-caller h) = h

  allocate-10 : {caller : ℕ} → Row t ram output (allocate caller) 10 → ¬ HasClass t FREE × NoShare t caller
  allocate-10 (allocate-none n s) = (n, s)

  free-2 : {caller segment : ℕ} → Row t ram output (free caller segment) 2 → 1 < caller
  free-2 (free-caller h) = h

  free-11 : {caller segment : ℕ} → Row t ram output (free caller segment) 11 → ¬ Own t caller segment
  free-11 (free-owner n) (i, o, v) = n i o v

module _ (t : Tables) (g : Good t) (ram output : ℕ) where
  -- 12 BOUNDARY: "nothing shared, or value above the EXOS boundary"
  pub bound-lowest : (value : ℕ) → Below (Row t ram output (set-user-boundary value)) 2
      → Lowest (Row t ram output (set-user-boundary value)) (on_set_user_boundary t value)
  unfolding on_set_user_boundary
  bound-lowest value =
      by_rows (set-user-boundary value) _
      (rule BadBoundary refl (λ _. says-as (says-or (says-not (some-says t g SHARED)) (says-lt (boundary_of t) value)) (⊎_elim bound-none bound-above) bound-12) end)
      (by-none (set-user-boundary value) _ refl refl)

  -- 10 SEGMENT: "nothing to allocate"
  share-says : (caller : ℕ) → Says (not (may_share t caller)) (NoShare t caller)
  share-says caller =
      says-as (says-not (says-and (says-and (says_eq caller 0) (says-not (some-says t g SHARED))) (says-lt 0 (boundary_of t))))
      (λ n. elim (ℕ_discrete caller 0) [
        | no a ↦ inl a
        | yes a ↦ elim (says-either (some-says t g SHARED)) [
          | inl s ↦ inr (inl s)
          | inr s ↦ inr (inr (below (λ b. n ((a, s), b))))
        ]
      ])
      (λ m h. elim m [ inl a ↦ a h.0.0 | inr b ↦ elim b [ inl s ↦ h.0.1 s | inr e ↦ omega (arith, h.1) ] ])
    where
      below : (0 < boundary_of t → ⊥) → boundary_of t ≡ 0
      below n = elim (dec_le 1 (boundary_of t)) [ yes h ↦ absurd (n (omega arith)) | no h ↦ omega arith ]

  pub allocate-lowest : (caller : ℕ) → Below (Row t ram output (allocate caller)) 2 → Lowest (Row t ram output (allocate caller)) (on_allocate t caller)
  unfolding on_allocate
  allocate-lowest caller =
      by_rows (allocate caller) _
      (rule BadCall refl (λ _. says-as (says-lt 1 caller) allocate-caller allocate-2)
      (rule NoSegment refl (λ _. says-as (says-and (says-not (some-says t g FREE)) (share-says caller)) (λ (n, s). allocate-none n s) allocate-10)
      end))
      (by-none (allocate caller) _ (granted-both (some_free t) _ _ refl refl) refl)

  -- 11 OWNER, of callers 0 and 1: "segment not the caller's to free"
  own-says : (caller segment : ℕ) → caller ≤ 1 → Says (may_free t caller (row_of t segment)) (Own t caller segment)
  own-says caller segment one =
      let class = class_at t (row_of t segment) in
      says-as (says-and (says-lt (row_of t segment) t.segments) (says-or (says_eq class (class_for caller)) (says-and (says_eq caller 0) (says_eq class SHARED))))
      (λ (h, m). (row_of t segment, in_list t g segment h, elim m [ inl e ↦ gives-own caller class one e | inr (z, e) ↦ rw (z, e) shared ]))
      (λ (i, o, v). rw (list-one t g segment i o) (o.within, gives-class v))

  pub free-lowest : (caller segment : ℕ) → Below (Row t ram output (free caller segment)) 2
      → Lowest (Row t ram output (free caller segment)) (on_free t caller segment)
  unfolding on_free
  free-lowest caller segment =
      by_rows (free caller segment) _
      (rule BadCall refl (λ _. says-as (says-lt 1 caller) free-caller free-2)
      (rule NotOwner refl (λ low.
      let one : caller ≤ 1 = elim (dec_le caller 1) [ yes h ↦ h | no h ↦ absurd (low 2 (omega arith) (free-caller (omega arith))) ] in
      says-as (says-not (own-says caller segment one)) (λ n. free-owner (λ i o v. n (i, o, v))) free-11)
      end))
      (by-none (free caller segment) _ refl refl)

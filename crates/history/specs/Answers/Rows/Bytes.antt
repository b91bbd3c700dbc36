-- Store and load.
use Rattle.std.proofs.Math.Path.{refl}
use Rattle.std.specs.Prelude.{List, ◌⊎◌, ℕ, ◌+◌, ◌<◌, ltb}
use Rattle.std.proofs.Common.{inl, inr, ⊎_elim, arith}
use Rattle.std.proofs.Math.ListN.{length}
use Rattle.line.specs.Definition.Guard.{guarded}
use Rattle.modules.specs.Laws.Tests.{Guarded as Touching, guarded-says}
use Rattle.rows.specs.Definition.Classes.{USER, SHARED}
use Rattle.rows.specs.Laws.Says.{Says, says-lt, says_eq, says-and, says-or, says-not, says-as}
use Rattle.kernel.specs.Definition.Tables.{class_at, row_of}
use Rattle.kernel.specs.Definition.Good.{Good}
use Rattle.kernel.specs.Definition.Segments.{may_reach, reach_of}
use Rattle.kernel.specs.Definition.Calls.{store, load, on_store, on_load}
use Rattle.kernel.specs.Definition.Refusals.{Row, InList, Reached, store-owner, load-owner, store-end, load-end, load-output, store-guard}
use Rattle.kernel.specs.declared.Tables.{Tables}
use Rattle.kernel.specs.declared.Answer.TheVariants.{NotOwner, BadRange, Guarded}
use Rattle.history.specs.Answers.Lowest.{Below, Lowest, end, rule}
use Rattle.history.specs.Answers.Tests.{says-either}
use Rattle.history.specs.Answers.Numbers.{by_rows, by-none}
use Rattle.history.specs.Answers.Found.{in_list, list-one}

-- the segment is in the list, and the user reaches it
abbrev pub Reaches : Tables → (segment : ℕ) → Type 0
Reaches t segment = (row : ℕ) × InList t segment row × Reached t row

-- the segment is in the list, and what is reached of it ends before an offset
abbrev Past : Tables → (segment stop : ℕ) → Type 0
Past t segment stop = (row : ℕ) × InList t segment row × (reach_of t row < stop)

module _ {t : Tables} {ram output : ℕ} where
  store-11 : {segment offset : ℕ} {bytes : List ℕ} → Row t ram output (store segment offset bytes) 11 → ¬ Reaches t segment
  store-11 (store-owner n) (i, o, r) = n i o r

  load-11 : {segment offset size : ℕ} → Row t ram output (load segment offset size) 11 → ¬ Reaches t segment
  load-11 (load-owner n) (i, o, r) = n i o r

  store-not : {segment offset : ℕ} {bytes : List ℕ} → ¬ Reaches t segment → Row t ram output (store segment offset bytes) 11
  store-not n = store-owner (λ i o r. n (i, o, r))

  load-not : {segment offset size : ℕ} → ¬ Reaches t segment → Row t ram output (load segment offset size) 11
  load-not n = load-owner (λ i o r. n (i, o, r))

  store-13 : {segment offset : ℕ} {bytes : List ℕ} → Row t ram output (store segment offset bytes) 13 → Past t segment (offset + length bytes)
  store-13 (store-end {row = i} o h) = (i, o, h)

  load-13 : {segment offset size : ℕ} → Row t ram output (load segment offset size) 13 → Past t segment (offset + size) ⊎ (output < size)
  load-13 (load-end {row = i} o h) = inl (i, o, h)
  load-13 (load-output h) = inr h

  store-14 : {segment offset : ℕ} {bytes : List ℕ} → Row t ram output (store segment offset bytes) 14 → InList t segment 0 × Touching offset (length bytes)
  store-14 (store-guard {k = k} o a b h) = (o, (k, a, b, h))

module _ (t : Tables) (g : Good t) (ram output : ℕ) where
  -- 11 OWNER: "segment not the caller's to free, store or load"
  pub reach-says : (segment : ℕ) → Says (may_reach t (row_of t segment)) (Reaches t segment)
  reach-says segment =
      let class = class_at t (row_of t segment) in
      says-as (says-and (says-lt (row_of t segment) t.segments) (says-or (says-or (says_eq (row_of t segment) 0) (says_eq class USER)) (says_eq class SHARED)))
      (λ (h, m). (row_of t segment, in_list t g segment h, elim m [ inl x ↦ elim x [ inl z ↦ inl z | inr u ↦ inr (inl u) ] | inr s ↦ inr (inr s) ]))
      (λ (i, o, r). rw (list-one t g segment i o) (o.within, elim r [ inl z ↦ inl (inl z) | inr x ↦ elim x [ inl u ↦ inl (inr u) | inr s ↦ inr s ] ]))

  -- 13 RANGE, of a segment that is reached: "offset + length past the end"
  past-says : (segment stop : ℕ) → Reaches t segment → Says (ltb (reach_of t (row_of t segment)) stop) (Past t segment stop)
  past-says segment stop (i, o, r) =
      let e = list-one t g segment i o in
      says-as (says-lt (reach_of t (row_of t segment)) stop)
      (λ h. (row_of t segment, in_list t g segment (rw e o.within), h))
      (λ (j, p, h). rw (list-one t g segment j p) h)

  pub reached : (segment : ℕ) → ¬ (Reaches t segment → ⊥) → Reaches t segment
  reached segment n = ⊎_elim (λ r. r) (λ m. absurd (n m)) (says-either (reach-says segment))

  -- 14 GUARD, of a segment that is reached
  guard-says : (segment offset n : ℕ) → Reaches t segment → Says (guarded (row_of t segment) offset n) (InList t segment 0 × Touching offset n)
  guard-says segment offset n (i, o, r) =
      says-as (guarded-says (row_of t segment) offset n)
      (λ (z, touched). (rw z at (in_list t g segment (rw (list-one t g segment i o) o.within)), touched))
      (λ (p, touched). (list-one t g segment 0 p, touched))

  pub store-lowest : (segment offset : ℕ) (bytes : List ℕ) → Below (Row t ram output (store segment offset bytes)) 2
      → Lowest (Row t ram output (store segment offset bytes)) (on_store t segment offset bytes)
  unfolding on_store
  store-lowest segment offset bytes =
      by_rows (store segment offset bytes) _
      (rule NotOwner refl (λ _. says-as (says-not (reach-says segment)) store-not store-11)
      (rule BadRange refl (λ low.
      says-as (past-says segment (offset + length bytes) (reached segment (λ n. low 11 (omega arith) (store-not n)))) (λ (i, o, h). store-end o h) store-13)
      (rule Guarded refl (λ low.
      says-as (guard-says segment offset (length bytes) (reached segment (λ n. low 11 (omega arith) (store-not n)))) (λ (o, (k, a, b, h)). store-guard o a b h) store-14)
      end)))
      (by-none (store segment offset bytes) _ refl refl)

  pub load-lowest : (segment offset size : ℕ) → Below (Row t ram output (load segment offset size)) 2
      → Lowest (Row t ram output (load segment offset size)) (on_load t output segment offset size)
  unfolding on_load
  load-lowest segment offset size =
      by_rows (load segment offset size) _
      (rule NotOwner refl (λ _. says-as (says-not (reach-says segment)) load-not load-11)
      (rule BadRange refl (λ low.
      says-as
      (says-or (past-says segment (offset + size) (reached segment (λ n. low 11 (omega arith) (load-not n)))) (says-lt output size))
      (⊎_elim (λ (i, o, h). load-end o h) load-output) load-13)
      end))
      (by-none (load segment offset size) _ refl refl)

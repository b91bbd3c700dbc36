-- Load module.
use Rattle.std.specs.Prelude.{◌≡◌, cond, List, ◌⊎◌, ℕ, ◌<◌, eqb, Result, Ok, Err}
use Rattle.std.proofs.Math.Path.{refl}
use Rattle.std.proofs.Common.{sym, ap, ◌∙◌, inl, inr, ⊎_elim, arith}
use Rattle.modules.specs.Definition.Counter.{counter}
use Rattle.modules.specs.Definition.Judging.{judged, refusal_of}
use Rattle.modules.specs.Laws.Faults.{refused-judged, judged-refused}
use Rattle.modules.specs.declared.Refusal.{Refusal}
use Rattle.modules.specs.declared.Refusal.TheVariants.{Module, Page, Range, Guard}
use Rattle.rows.specs.Laws.Says.{Says, says-lt, says_eq, says-or, says-not, says-as}
use Rattle.kernel.specs.Definition.Tables.{SEGMENT, row_of}
use Rattle.kernel.specs.Definition.Good.{Good}
use Rattle.kernel.specs.Definition.Calls.{load-module, target_of, on_load_module}
use Rattle.kernel.specs.Definition.Refusals.{Row, InList, ModuleRefused, module-start-page, module-start-offset, module-owner, module-range, module-guard, module-bad, module-page}
use Rattle.kernel.specs.declared.Tables.{Tables}
use Rattle.kernel.specs.declared.Answer.TheVariants.{BadCall, NotOwner, BadRange, Guarded, BadModule, BadPage}
use Rattle.history.specs.Answers.Lowest.{Below, Lowest, end, rule}
use Rattle.history.specs.Answers.Numbers.{by_rows, by-none}
use Rattle.history.specs.Answers.Found.{in_list, list-one}
use Rattle.history.specs.Answers.Rows.Bytes.{Reaches, reach-says, reached}

-- a refusal's number is of one refusal
fault_of : ℕ → Refusal
fault_of k = cond (eqb k 13) Range (cond (eqb k 14) Guard (cond (eqb k 19) Module Page))

fault-is : (f : Refusal) → fault_of (refusal_of (Err f)) ≡ f
unfolding fault_of
fault-is Module = refl
fault-is Page = refl
fault-is Range = refl
fault-is Guard = refl

-- and of one verdict
fault-of : (j : Result ℕ Refusal) (f : Refusal) → refusal_of j ≡ refusal_of (Err f) → j ≡ Err f
fault-of (Ok b) Module e = absurd (omega (arith, e))
fault-of (Ok b) Page e = absurd (omega (arith, e))
fault-of (Ok b) Range e = absurd (omega (arith, e))
fault-of (Ok b) Guard e = absurd (omega (arith, e))
fault-of (Err f) g e = ap (λ (f : Refusal). Err f) (sym (fault-is f) ∙ ap fault_of e ∙ fault-is g)

-- the segment is in the list, and its first item at fault is refused for this
abbrev RefusedFor : Tables → (segment page offset : ℕ) (stream : List ℕ) → Refusal → Type 0
RefusedFor t segment page offset stream f = (row : ℕ) × InList t segment row × ModuleRefused t row page offset stream f

module _ {t : Tables} {ram output segment page offset : ℕ} {stream : List ℕ} where
  module-2 : Row t ram output (load-module segment page offset stream) 2 → (3 < page) ⊎ (SEGMENT < offset)
  module-2 (module-start-page h) = inl h
  module-2 (module-start-offset h) = inr h

  module-11 : Row t ram output (load-module segment page offset stream) 11 → ¬ Reaches t segment
  module-11 (module-owner n) (i, o, r) = n i o r

  module-not : ¬ Reaches t segment → Row t ram output (load-module segment page offset stream) 11
  module-not n = module-owner (λ i o r. n (i, o, r))

  module-13 : Row t ram output (load-module segment page offset stream) 13 → RefusedFor t segment page offset stream Range
  module-13 (module-range {row = i} o h) = (i, o, h)

  module-14 : Row t ram output (load-module segment page offset stream) 14 → RefusedFor t segment page offset stream Guard
  module-14 (module-guard {row = i} o h) = (i, o, h)

  module-19 : Row t ram output (load-module segment page offset stream) 19 → RefusedFor t segment page offset stream Module
  module-19 (module-bad {row = i} o h) = (i, o, h)

  module-20 : Row t ram output (load-module segment page offset stream) 20 → RefusedFor t segment page offset stream Page
  module-20 (module-page {row = i} o h) = (i, o, h)

module _ (t : Tables) (g : Good t) (ram output segment page offset : ℕ) (stream : List ℕ) where
  abbrev C : ℕ → Type 0
  C = Row t ram output (load-module segment page offset stream)

  abbrev verdict : Result ℕ Refusal
  verdict = judged (target_of t (row_of t segment) page) (counter page offset) stream

  -- 13 RANGE, 14 GUARD, 19 MODULE, 20 PAGE, of a segment that is reached
  fault-says : (f : Refusal) → Below C 13 → Says (eqb (refusal_of verdict) (refusal_of (Err f))) (RefusedFor t segment page offset stream f)
  fault-says f low =
      let (i, o, r) = reached t g ram output segment (λ n. low 11 (omega arith) (module-not n)) in
      let here : InList t segment (row_of t segment) = in_list t g segment (rw (list-one t g segment i o) o.within) in
      says-as (says_eq (refusal_of verdict) (refusal_of (Err f)))
      (λ e. (row_of t segment, here, judged-refused _ (counter page offset) stream f (fault-of verdict f e)))
      (λ (k, p, h).
      let is : judged (target_of t k page) (counter page offset) stream ≡ Err f = refused-judged (target_of t k page) (counter page offset) stream f h in
      rw (list-one t g segment k p) (ap refusal_of is))

  pub load-module-lowest : Below C 2 → Lowest C (on_load_module t segment page offset stream)
  unfolding on_load_module
  load-module-lowest =
      by_rows (load-module segment page offset stream) _
      (rule BadCall refl (λ _. says-as (says-or (says-lt 3 page) (says-lt SEGMENT offset)) (⊎_elim module-start-page module-start-offset) module-2)
      (rule NotOwner refl (λ _. says-as (says-not (reach-says t g ram output segment)) module-not module-11)
      (rule BadRange refl (λ low. says-as (fault-says Range low) (λ (i, o, h). module-range o h) module-13)
      (rule Guarded refl (λ low. says-as (fault-says Guard (λ j h. low j (omega arith))) (λ (i, o, h). module-guard o h) module-14)
      (rule BadModule refl (λ low. says-as (fault-says Module (λ j h. low j (omega arith))) (λ (i, o, h). module-bad o h) module-19)
      (rule BadPage refl (λ low. says-as (fault-says Page (λ j h. low j (omega arith))) (λ (i, o, h). module-page o h) module-20)
      end))))))
      (by-none (load-module segment page offset stream) _ refl refl)

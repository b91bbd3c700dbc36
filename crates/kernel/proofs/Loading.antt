-- Load module: each refusal and the load are a branch of `on_load_module`.
use mathlib.Core.Path.{◌≡◌, refl, sym, ap, ◌∙◌}
use mathlib.Core.Bool.{true, false}
use mathlib.Core.List.{List, [], ◌∷◌}
use Prim.Native.Nat.{ℕ, ◌*◌}
use lib.Dec.{eqb}
use Rattle.std.specs.Prelude.{Result, Ok, Err, Some, None}
use Rattle.modules.specs.Definition.Counter.{past_range, counter}
use Rattle.modules.specs.Definition.Judging.{judged, puts_in, refusal_of, used_of}
use Rattle.modules.specs.Within.Acts.{put_where}
use Rattle.modules.specs.Within.Scan.{stored_before}
use Rattle.modules.specs.Laws.Taken.{stored-all}
use Rattle.modules.specs.declared.Refusal.{Refusal}
use Rattle.modules.specs.declared.Refusal.TheVariants.{Module, Page, Range, Guard}
use Rattle.modules.specs.declared.Target.{Target}
use Rattle.kernel.specs.Definition.Good.{Good}
use Rattle.kernel.specs.Definition.Bytes.{nothing, one_by_one}
use Rattle.kernel.specs.Definition.Segments.{reach_of}
use Rattle.kernel.specs.Definition.Answers.{gives, Decision, ◌changing◌, unless, ◌when◌}
use Rattle.kernel.specs.Definition.Calls.{target_of, on_load_module}
use Rattle.kernel.specs.Definition.Step.{completed, result_of}
use Rattle.kernel.specs.Within.{reached_at, answer_for}
use Rattle.kernel.specs.declared.Tables.{Tables}
use Rattle.kernel.specs.declared.Outcome.{Outcome}
use Rattle.kernel.specs.declared.Answer.{Answer}
use Rattle.kernel.specs.declared.Answer.TheVariants.{Done, BadCall, NotOwner, BadRange, Guarded, BadModule, BadPage}
use Rattle.kernel.proofs.Spans.{Reached, reached, unreached}

module _ (t : Tables) (ram stream : List ℕ) (segment page offset : ℕ) where
  pub start-refused : true ≡ past_range page offset → (o : Outcome) → o ≡ gives BadCall t → (out : List ℕ)
      → result_of o ram out ≡ completed t (on_load_module t segment page offset stream) ram out
  unfolding completed on_load_module
  start-refused e o f out = rw (← e, f)

  pub module-other : false ≡ past_range page offset → None ≡ reached_at t segment → (o : Outcome) → o ≡ gives NotOwner t → (out : List ℕ)
      → result_of o ram out ≡ completed t (on_load_module t segment page offset stream) ram out
  unfolding completed on_load_module
  module-other s n o g out = rw (← s, unreached t segment n, g)

-- ---- the stream is judged

abbrev target_at : (row reach page : ℕ) → Target
target_at row reach page = record { row = row; reach = reach; page = page }

module _ (t : Tables) (ram stream : List ℕ) (segment page offset row reach : ℕ) (s : false ≡ past_range page offset) (g : Good t) (found : Some row ≡ reached_at t segment)
    (r : reach ≡ reach_of t row) where
  x : Reached t segment row
  x = reached t segment row g found

  abbrev target : Target
  target = target_of t row page

  -- what is decided then
  abbrev on_judged : Result ℕ Refusal → Decision
  on_judged j =
      unless
      (BadRange when eqb (refusal_of j) 13
      ∷ Guarded when eqb (refusal_of j) 14
      ∷ BadModule when eqb (refusal_of j) 19
      ∷ BadPage when eqb (refusal_of j) 20
      ∷ []) t
      (gives (Done 0 (used_of j)) t changing one_by_one row (puts_in page offset stream))

  on_refusal : (f : Refusal) → on_judged (Err f) ≡ (gives (answer_for f) t changing nothing)
  on_refusal Module = refl
  on_refusal Page = refl
  on_refusal Range = refl
  on_refusal Guard = refl

  same_target : target_at row reach page ≡ target
  same_target = rw r

  module _ (j : Result ℕ Refusal) (q : j ≡ judged (target_at row reach page) (counter page offset) stream) where
    judged-is : judged target (counter page offset) stream ≡ j
    judged-is = sym (q ∙ ap (λ (g : Target). judged g (counter page offset) stream) same_target)

    decides : on_load_module t segment page offset stream ≡ on_judged j
    unfolding on_load_module
    decides = rw (← s, x.here, x.may, judged-is)

  -- what the stream is refused for
  pub module-refused : (f : Refusal) → Err f ≡ judged (target_at row reach page) (counter page offset) stream → (answer : Answer) → answer ≡ answer_for f
      → (o : Outcome) → o ≡ gives answer t → (ram₁ : List ℕ) → ram₁ ≡ ram → (out : List ℕ)
      → result_of o ram₁ out ≡ completed t (on_load_module t segment page offset stream) ram out
  unfolding completed
  module-refused f q answer a o g ram₁ same out = rw (decides (Err f) q, on_refusal f, same, g, a)

  pub module-done : (used : ℕ) → Ok used ≡ judged (target_at row reach page) (counter page offset) stream → (ram₁ after : List ℕ) → ram₁ ≡ ram
      → after ≡ put_where true (16384 * row) ram₁ (stored_before (target_at row reach page) (counter page offset) stream)
      → (o : Outcome) → o ≡ gives (Done 0 used) t → (out : List ℕ) → result_of o after out ≡ completed t (on_load_module t segment page offset stream) ram out
  unfolding completed
  module-done used q ram₁ after same a o d out =
      let whole : refusal_of (judged target (counter page offset) stream) ≡ 0 = rw (judged-is (Ok used) q) in
      let puts : stored_before (target_at row reach page) (counter page offset) stream ≡ puts_in page offset stream =
      ap (λ (g : Target). stored_before g (counter page offset) stream) same_target ∙ stored-all target (counter page offset) stream whole in
      rw (decides (Ok used) q, d, a, same, puts)

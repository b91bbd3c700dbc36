-- A load of a module is done exactly where the stream is a module without fault, and b is its bytes: the statement of Definition/Loads.antt, proved.
use Rattle.std.specs.Prelude.{◌≡◌, refl, Bool, true, false, not, ◌||◌, List, [], ◌∷◌, ℕ, ◌<◌, eqb, length, Result, Ok, Err}
use Rattle.std.proofs.Common.{sym, ap, ◌∙◌, arith}
use borrow.Author.Tests.{le-ltb, ltb-false, not-false}
use Rattle.std.proofs.Math.Dec.{ltb}
use Rattle.modules.specs.Definition.Reading.{taken_of}
use Rattle.modules.specs.Definition.Counter.{counter}
use Rattle.modules.specs.Definition.Judging.{judged, refusal_of, used_of}
use Rattle.modules.specs.Laws.Stored.{none-refuses}
use Rattle.modules.specs.Laws.Unique.{whole-module, whole-faultless, module-whole}
use Rattle.modules.specs.declared.Refusal.{Refusal}
use Rattle.modules.specs.declared.Refusal.TheVariants.{Module, Page, Range, Guard}
use Rattle.rows.specs.Laws.Lists.{or_left, or_right}
use Rattle.kernel.specs.Definition.Tables.{SEGMENT, row_of}
use Rattle.kernel.specs.Definition.Good.{Good}
use Rattle.kernel.specs.Definition.Segments.{may_reach}
use Rattle.kernel.specs.Definition.Answers.{number_of, b_of, Decision, unless, ◌when◌}
use Rattle.kernel.specs.Definition.Calls.{load-module, target_of, on_load_module}
use Rattle.kernel.specs.Definition.Step.{heard, completed, step}
use Rattle.kernel.specs.Laws.Ready.{ready-heard}
use Rattle.kernel.specs.declared.Tables.{Tables}
use Rattle.kernel.specs.declared.Answer.{Answer}
use Rattle.kernel.specs.declared.Answer.TheVariants.{Done, BadCall, NotOwner, BadRange, Guarded, BadModule, BadPage}
use Rattle.history.specs.Definition.Loads.{Loads, LoadsExactly}
use Rattle.history.specs.Answers.Found.{in_list, list-one}
use Rattle.history.specs.Answers.Rows.Bytes.{reach-says}

-- a call that is done has passed its refusals
refused-not : (answer : Answer) (k b : ℕ) → number_of answer ≡ k → 0 < k → answer ≡ Done 0 b → ⊥
refused-not answer k b n p e = let z : number_of answer ≡ 0 = ap number_of e in absurd (omega arith)

-- a verdict with no refusal is whole
whole_is : (j : Result ℕ Refusal) (b : ℕ) → refusal_of j ≡ 0 → used_of j ≡ b → j ≡ Ok b
whole_is (Ok d) b z e = ap (λ (x : ℕ). Ok x) e
whole_is (Err Module) b z e = absurd (omega arith)
whole_is (Err Page) b z e = absurd (omega arith)
whole_is (Err Range) b z e = absurd (omega arith)
whole_is (Err Guard) b z e = absurd (omega arith)

-- what a load that is done has passed
record Passed (t : Tables) (segment page offset : ℕ) (stream : List ℕ) (b : ℕ) : Type 0 where
  pub start : ltb 3 page || ltb SEGMENT offset ≡ false
  pub reaches : may_reach t (row_of t segment) ≡ true
  pub verdict : judged (target_of t (row_of t segment) page) (counter page offset) stream ≡ Ok b

passed-by : (t : Tables) (call owner range guard bad out : Bool) (done : Decision) (b : ℕ)
    → (unless (BadCall when call ∷ NotOwner when owner ∷ BadRange when range ∷ Guarded when guard ∷ BadModule when bad ∷ BadPage when out ∷ []) t done).answer ≡ Done 0 b
    → (call ≡ false) × (owner ≡ false) × (range ≡ false) × (guard ≡ false) × (bad ≡ false) × (out ≡ false) × (done.answer ≡ Done 0 b)
passed-by t true owner range guard bad out done b e = absurd (refused-not BadCall 2 b refl (omega arith) e)
passed-by t false true range guard bad out done b e = absurd (refused-not NotOwner 11 b refl (omega arith) e)
passed-by t false false true guard bad out done b e = absurd (refused-not BadRange 13 b refl (omega arith) e)
passed-by t false false false true bad out done b e = absurd (refused-not Guarded 14 b refl (omega arith) e)
passed-by t false false false false true out done b e = absurd (refused-not BadModule 19 b refl (omega arith) e)
passed-by t false false false false false true done b e = absurd (refused-not BadPage 20 b refl (omega arith) e)
passed-by t false false false false false false done b e = (refl, refl, refl, refl, refl, refl, e)

module _ (t : Tables) (g : Good t) (segment page offset : ℕ) (stream : List ℕ) (b : ℕ) where
  abbrev verdict : Result ℕ Refusal
  verdict = judged (target_of t (row_of t segment) page) (counter page offset) stream

  load-passed : (on_load_module t segment page offset stream).answer ≡ Done 0 b → Passed t segment page offset stream b
  unfolding on_load_module
  load-passed e =
      let k = refusal_of verdict in
      let (start, owner, range, guard, bad, out, done) =
      passed-by t (ltb 3 page || ltb SEGMENT offset) (not (may_reach t (row_of t segment))) (eqb k 13) (eqb k 14) (eqb k 19) (eqb k 20) _ b e in
      record { start = start; reaches = not-false _ owner; verdict = whole_is verdict b (none-refuses verdict range guard bad out) (ap b_of done) }

  passed-load : Passed t segment page offset stream b → (on_load_module t segment page offset stream).answer ≡ Done 0 b
  unfolding on_load_module
  passed-load p = rw (p.start, p.reaches, p.verdict)

  passed-loads : Passed t segment page offset stream b → Loads t segment page offset stream b
  passed-loads p =
      let (i, o, r) = (reach-says t g 0 0 segment).yes p.reaches in
      let e = list-one t g segment i o in
      let at = target_of t (row_of t segment) page in
      record {
        start = record { page = ltb-false _ _ (or_left (ltb 3 page) (ltb SEGMENT offset) p.start); offset = ltb-false _ _ (or_right (ltb 3 page) (ltb SEGMENT offset) p.start) };
        row = row_of t segment;
        listed = in_list t g segment (rw e o.within);
        reached = rw e r;
        items = (taken_of stream).items;
        are = whole-module at (counter page offset) stream b p.verdict;
        faultless = whole-faultless at (counter page offset) stream b p.verdict;
      }

  loads-passed : Loads t segment page offset stream b → Passed t segment page offset stream b
  loads-passed l =
      let e = list-one t g segment l.row l.listed in
      record {
        start = rw (le-ltb 3 page l.start.page, le-ltb SEGMENT offset l.start.offset);
        reaches = (reach-says t g 0 0 segment).make (l.row, l.listed, l.reached);
        verdict = rw e (module-whole (target_of t l.row page) (counter page offset) stream l.items b l.are l.faultless);
      }

pub loads-exactly : LoadsExactly
unfolding step completed heard
loads-exactly s good size segment page offset stream output b =
    let t = s.tables in
    let h = ap (λ (d : Decision). d.answer) (ready-heard t (length s.ram) (length output) (load-module segment page offset stream) (record { good = good; size = size })) in (
      λ e. passed-loads t good segment page offset stream b (load-passed t good segment page offset stream b (sym h ∙ e)),
      λ l. h ∙ passed-load t good segment page offset stream b (loads-passed t good segment page offset stream b l),
    )

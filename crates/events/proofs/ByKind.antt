-- From a record's kind to the call in its body.
use mathlib.Core.Path.{◌≡◌, refl, sym}
use mathlib.Core.Bool.{false}
use mathlib.Core.List.{List}
use Prim.Native.Nat.{ℕ}
use lib.ListN.{length}
use borrow.Author.Tests.{ne_eqb}
use Rattle.kernel.specs.Definition.Answers.{gives}
use Rattle.kernel.specs.Definition.Calls.{Call, no_call}
use Rattle.kernel.specs.Definition.Good.{Good}
use Rattle.kernel.specs.Definition.Tables.{ram_size}
use Rattle.kernel.specs.Definition.Step.{Result, ready_test, result_of, step}
use Rattle.kernel.specs.declared.Tables.{Tables}
use Rattle.kernel.specs.declared.Outcome.{Outcome}
use Rattle.kernel.specs.declared.Answer.TheVariants.{BadTables, BadCall}
use Rattle.kernel.proofs.Calls.{call_refused}
use Rattle.events.specs.declared.kinds.Kind.{Kind}
use Rattle.events.specs.declared.kinds.Kind.TheVariants.{Reset, Open, Close, Read, Write, Default, Status, Link, Boundary, SetUserBoundary, Allocate, Free, LoadModule, Start, Store, Load}
use Rattle.events.specs.Definition.Kinds.{number_of}
use Rattle.events.specs.Definition.Records.{start_in, reset_in, open_in, close_in, read_in, write_in, default_in, status_in, link_in, boundary_in, set_user_boundary_in, allocate_in, free_in, store_in, load_in, load_module_in, call_in, step_of}
use Rattle.events.specs.Laws.Bodies.{no_start}
use Rattle.events.proofs.Laws.{refused}

-- the call in a body of this kind
abbrev pub call_of : Kind → (body : List ℕ) → Call
call_of Reset body = reset_in body
call_of Open body = open_in body
call_of Close body = close_in body
call_of Read body = read_in body
call_of Write body = write_in body
call_of Default body = default_in body
call_of Status body = status_in body
call_of Link body = link_in body
call_of Boundary body = boundary_in body
call_of SetUserBoundary body = set_user_boundary_in body
call_of Allocate body = allocate_in body
call_of Free body = free_in body
call_of LoadModule body = load_module_in body
call_of Start body = start_in body
call_of Store body = store_in body
call_of Load body = load_in body

-- the definition goes by the kind's number
numbered : (kind : Kind) (body : List ℕ) → call_in (number_of kind) body ≡ call_of kind body
unfolding call_in
numbered Reset body = refl
numbered Open body = refl
numbered Close body = refl
numbered Read body = refl
numbered Write body = refl
numbered Default body = refl
numbered Status body = refl
numbered Link body = refl
numbered Boundary body = refl
numbered SetUserBoundary body = refl
numbered Allocate body = refl
numbered Free body = refl
numbered LoadModule body = refl
numbered Start body = refl
numbered Store body = refl
numbered Load body = refl

unknown : (number : ℕ) (body : List ℕ) → ((kind : Kind) → number_of kind ≡ number → ⊥) → call_in number body ≡ no_call
unfolding call_in
unknown number body h =
    rw (
      ne_eqb number 256 (λ e. h Start (sym e)),
      ne_eqb number 0 (λ e. h Reset (sym e)),
      ne_eqb number 1 (λ e. h Open (sym e)),
      ne_eqb number 3 (λ e. h Close (sym e)),
      ne_eqb number 6 (λ e. h Read (sym e)),
      ne_eqb number 8 (λ e. h Write (sym e)),
      ne_eqb number 19 (λ e. h Default (sym e)),
      ne_eqb number 20 (λ e. h Status (sym e)),
      ne_eqb number 21 (λ e. h Link (sym e)),
      ne_eqb number 22 (λ e. h Boundary (sym e)),
      ne_eqb number 23 (λ e. h SetUserBoundary (sym e)),
      ne_eqb number 24 (λ e. h Allocate (sym e)),
      ne_eqb number 25 (λ e. h Free (sym e)),
      ne_eqb number 257 (λ e. h Store (sym e)),
      ne_eqb number 258 (λ e. h Load (sym e)),
      ne_eqb number 30 (λ e. h LoadModule (sym e)),
    )

module _ (t : Tables) (ram : List ℕ) (number : ℕ) (body out : List ℕ) where
  -- what the body's call leaves is what the record leaves
  pub by_kind : {kind : Kind} (k : Kind) (x : Result) → number_of kind ≡ number → kind ≡ k → x ≡ step t ram (call_of k body) out → x ≡ step_of t ram number body out
  by_kind k x e f q = rw (← e, f, numbered k body) q

  pub no_kind : Good t → length ram ≡ ram_size t → ((kind : Kind) → number_of kind ≡ number → ⊥) → (r : Outcome) → r ≡ gives BadCall t
      → result_of r ram out ≡ step_of t ram number body out
  no_kind g s h r q = rw (unknown number body h) (refused t ram out g s r q)

  pub bad_tables : false ≡ ready_test t (length ram) → (number ≡ 256 → ⊥) → (r : Outcome) → r ≡ gives BadTables t → result_of r ram out ≡ step_of t ram number body out
  bad_tables e n r q = call_refused t ram (call_in number body) out r e (no_start number body n) q

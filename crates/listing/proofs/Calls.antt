-- A record's call: what it answers before an accepted start, and what it leaves.
use mathlib.Core.Path.{◌≡◌, ap, ◌∙◌}
use mathlib.Core.List.{List, ◌++◌}
use Prim.Native.Nat.{ℕ}
use lib.ListN.{length, take, drop}
use Rattle.kernel.specs.Definition.Answers.{gives}
use Rattle.kernel.specs.Definition.Good.{good_test}
use Rattle.kernel.specs.Definition.Start.{no_tables}
use Rattle.kernel.specs.Definition.Step.{Result, result_of}
use Rattle.kernel.specs.declared.Tables.{Tables}
use Rattle.kernel.specs.declared.Outcome.{Outcome}
use Rattle.kernel.specs.declared.Answer.TheVariants.{BadTables}
use Rattle.events.specs.Definition.Records.{step_of}
use Rattle.events.proofs.ByKind.{bad_tables}
use Rattle.listing.specs.Definition.Log.{lent_to, on_rest, log_step}
use Rattle.listing.specs.Definition.NoneOrGood.{NoneOrGood}
use Rattle.listing.specs.Laws.NoneOrGood.{record-keeps}

-- "Before an accepted start every other kind answers 1."
pub unstarted : (t : Tables) (ram : List ℕ) (kind : ℕ) (body out : List ℕ) (r : Outcome) → t ≡ no_tables → (kind ≡ 256 → ⊥) → r ≡ gives BadTables t
    → result_of r ram out ≡ step_of t ram kind body out
unfolding no_tables good_test
unstarted t ram kind body out r e n q = bad_tables t ram kind body out (rw e) n r q

whole : (t : Tables) (ram out : List ℕ) (kind : ℕ) (body : List ℕ) (n : ℕ) → n ≡ lent_to t.segments kind (length body)
    → on_rest ram n (step_of t (take n ram) kind body out) ≡ log_step t ram out kind body
unfolding log_step
whole t ram out kind body n h = rw h

-- what a call leaves of the four segments, and that it keeps the tables that are carried
module _ (t : Tables) (ram out : List ℕ) (kind : ℕ) (body : List ℕ) (n : ℕ) (h : n ≡ lent_to t.segments kind (length body))
    (o : Outcome) (ram' out' : List ℕ) (e : result_of o ram' out' ≡ step_of t (take n ram) kind body out) where
  pub left : result_of o (ram' ++ drop n ram) out' ≡ log_step t ram out kind body
  left = ap (on_rest ram n) e ∙ whole t ram out kind body n h

  pub good-after : length ram ≡ 65536 → NoneOrGood t → NoneOrGood o.tables
  good-after s k = rw (ap (λ (v : Result). v.tables) left) (record-keeps t ram out kind body s k)

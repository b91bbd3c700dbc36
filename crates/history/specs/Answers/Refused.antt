-- "A refused call returns the refusal's fixed values and changes no table, no RAM byte and no byte of the lent output." (The invitation, condition 1.)
use Rattle.std.specs.Prelude.{◌≡◌, refl, false, List, ℕ, length}
use Rattle.std.proofs.Common.{sym, ◌∙◌, arith}
use Rattle.std.proofs.Math.Path.{ap}
use Rattle.std.proofs.lemmas.Bool.{false≢true}
use Rattle.kernel.specs.Definition.Answers.{granted, gives, Decision}
use Rattle.kernel.specs.Definition.Bytes.{moves_of}
use Rattle.kernel.specs.Definition.Calls.{Call}
use Rattle.kernel.specs.Definition.Step.{completed, result_of, step}
use Rattle.kernel.specs.Laws.Effects.{Verdict, bars, drives, refuses, starts, does, verdict}
use Rattle.kernel.specs.Laws.Refused.{refused-stays}
use Rattle.kernel.specs.declared.Tables.{Tables}
use Rattle.history.specs.Definition.Refused.{FixedValues, zeros, driver}

values : {t : Tables} {ram : ℕ} {c : Call} {d : Decision} → Verdict t ram c d → granted d.answer ≡ false → FixedValues c d.answer (length (moves_of t d.tables d.ram))
unfolding moves_of
values (bars e) f = zeros (λ q. omega arith) refl refl refl
values (drives h) f = driver refl h refl refl refl refl
values (refuses answer p) f = zeros p.other p.a p.b refl
values (starts e) f = absurd (false≢true (sym f))
values (does d e) f = absurd (false≢true (sym f ∙ d))

-- Of any tables, any RAM, any call and any lent output.
module _ (t : Tables) (ram : List ℕ) (c : Call) (output : List ℕ) (e : granted (step t ram c output).answer ≡ false) where
  pub refused-values : FixedValues c (step t ram c output).answer (step t ram c output).moved
  unfolding step completed
  refused-values = values (verdict t (length ram) (length output) c) e

  pub refused-changes-nothing : step t ram c output ≡ result_of (gives (step t ram c output).answer t) ram output
  unfolding step completed
  refused-changes-nothing = ap (λ (d : Decision). completed t d ram output) (refused-stays t (length ram) (length output) c e)

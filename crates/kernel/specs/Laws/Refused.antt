-- A refused call leaves the tables as they were, and changes no byte.
use Rattle.std.specs.Prelude.{◌≡◌, refl, false, ℕ}
use Rattle.std.proofs.Common.{sym, ◌∙◌}
use Rattle.std.proofs.lemmas.Bool.{false≢true}
use Rattle.kernel.specs.Definition.Bytes.{nothing}
use Rattle.kernel.specs.Definition.Answers.{granted, gives, Decision, ◌changing◌}
use Rattle.kernel.specs.Definition.Calls.{Call}
use Rattle.kernel.specs.Definition.Step.{decided}
use Rattle.kernel.specs.Laws.Effects.{Verdict, bars, drives, refuses, starts, does, verdict}
use Rattle.kernel.specs.declared.Tables.{Tables}

stays : {t : Tables} {ram : ℕ} {c : Call} {d : Decision} → Verdict t ram c d → granted d.answer ≡ false → d ≡ gives d.answer t changing nothing
stays (bars e) f = refl
stays (drives h) f = refl
stays (refuses answer p) f = refl
stays (starts e) f = absurd (false≢true (sym f))
stays (does d e) f = absurd (false≢true (sym f ∙ d))

pub refused-stays : (t : Tables) (ram output : ℕ) (c : Call) → granted (decided t ram output c).answer ≡ false
    → decided t ram output c ≡ gives (decided t ram output c).answer t changing nothing
refused-stays t ram output c e = stays (verdict t ram output c) e

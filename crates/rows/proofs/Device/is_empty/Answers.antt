-- `Device::is_empty` meets its contract.
use Rattle.std.proofs.Common.{rules, refl, ◌≡◌, ◌∙◌, Bool, false, not, ◌&&◌, ℕ, List, replicate, length, eqb, arith}
use Rattle.std.specs.Cmp.Lexicographic.{pointwise}
use Rattle.std.proofs.Math.Bool.{beq}
use Rattle.std.proofs.lemmas.Bool.Decides.{nat_tests}
use Rattle.rows.specs.Definition.Lists.{up_to}
use Rattle.rows.specs.Definition.Devices.{same_bytes}
use Rattle.rows.specs.Definition.Tests.{zero_row}
use Rattle.rows.specs.Laws.Lists.{up_to-same}
use Rattle.rows.specs.Laws.ClassRows.{zeros-at}
use Rattle.rows.proofs.Tests.{same_name_bytes}
use Rattle.rows.proofs.Device.is_empty.Goals as goal

zeros : (name : List ℕ) → length name ≡ 28 → pointwise eqb name (replicate 28 0) ≡ up_to 28 (zero_row name)
zeros name l =
    same_name_bytes name (replicate 28 0) l refl
    ∙ up_to-same 28 (same_bytes name (replicate 28 0)) (zero_row name) (λ k h. rw (zeros-at 28 k))

-- the row's fields in another order
turned : (a b c : Bool) → a && (b && beq c false) ≡ (b && not c) && a
turned a b c = grind (arith, nat_tests)

pub returns : goal.returns
returns c =
    let d = c.args.self.now in
    let l : length d.name ≡ 28 = search rules in
    let e : c.eq.result ≡ pointwise eqb d.name (replicate 28 0) && (eqb d.length 0 && beq d.enabled false) = c.eq.ensures in
    e ∙ (rw (zeros d.name l) (turned (up_to 28 (zero_row d.name)) (eqb d.length 0) d.enabled))

-- The records of a buffer, from where they have come to.
use Rattle.std.specs.Prelude.{◌≡◌, List, ℕ, ◌+◌, Ok, Err}
use Rattle.std.proofs.Common.{refl, sym}
use Rattle.events.specs.declared.NoRecord.TheVariants.{Bad}
use Rattle.events.specs.declared.Record.{Record}
use Rattle.events.specs.Definition.Records.{front_of, body_of, rest_of}
use Rattle.audit.specs.declared.After.{After}
use Rattle.audit.specs.declared.Word.{Word}
use Rattle.audit.specs.Definition.Records.{State}
use Rattle.audit.specs.Definition.Log.{Mark, mark, Walks, stay, pass, lacking_of, bad, whole}
use Rattle.audit.specs.Definition.Pieces.{state_of, leaves, Faults}
use Rattle.audit.specs.Definition.Verdict.{Next, next}
use Rattle.audit.specs.Laws.Records.{says}

-- one way after another
onward : {from m to : Mark} → Walks from m → Walks m to → Walks from to
onward stay w = w
onward (pass e r v) w = pass e r (onward v w)

-- what the code finds of a record is what the record leaves
pub said : (r : After) (ram out : List ℕ) {word : Word} {v : Next} → r.found ≡ Err word → leaves r ram out ≡ v → Err word ≡ v
said r ram out e q = rw e at q

pub passed : (r : After) (ram out : List ℕ) {v : Next} → r.found ≡ Ok tt → leaves r ram out ≡ v → Ok (state_of r.due r.tables ram out) ≡ v
passed r ram out e q = rw e at q

module _ (from : Mark) (number : ℕ) (s : State) (left : List ℕ) (w : Walks from (mark number s left)) where
  pub at-bad : Err Bad ≡ front_of left → (word : Word) → word ≡ lacking_of s.due → Faults from number word
  at-bad e word q = rw q (record { at = mark number s left; walks = w; number_is = refl; fault = bad (sym e) })

  module _ (r : Record) (e : Ok r ≡ front_of left) where
    pub at-wrong : (word : Word) → Err word ≡ next s r.kind (body_of left r.size) → Faults from number word
    at-wrong word q = record { at = mark number s left; walks = w; number_is = refl; fault = whole (sym e) (rw (← q) at (says s r.kind (body_of left r.size))) }

    pub at_right : (to : State) → Ok to ≡ next s r.kind (body_of left r.size) → Walks from (mark (number + 1) to (rest_of left r.size))
    at_right to q = onward w (pass (sym e) (rw (← q) at (says s r.kind (body_of left r.size))) stay)

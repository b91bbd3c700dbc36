-- The earlier checks of an open, each by itself: whoever meets them passes.
use Rattle.std.specs.Prelude.{List, ℕ}
use Rattle.std.proofs.Common.{arith}
use Rattle.names.specs.Definition.Grammar.{Reading}
use Rattle.names.specs.Laws.Right.{reads-one}
use Rattle.kernel.specs.Definition.Calls.{«open»}
use Rattle.kernel.specs.Definition.Refusals.{tables-bad, ram-wrong, open-channel, open-exists, open-name, open-device, open-driver, open_full, open-room}
use Rattle.kernel.specs.declared.Tables.{Tables}
use Rattle.history.specs.Definition.Room.{Passes}
use Rattle.history.specs.Definition.Checks.{Checks}

pub checks-pass : (t : Tables) (ram output channel driver n : ℕ) (name : List ℕ) (r : Reading) (i : ℕ) → Checks t ram channel driver name r i
    → Passes t ram output («open» channel driver n name)
checks-pass t ram output channel driver n name r i c k h (tables-bad s bad) = bad c.good
checks-pass t ram output channel driver n name r i c k h (ram-wrong s wrong) = wrong c.size
checks-pass t ram output channel driver n name r i c k h (open-channel l) = omega (arith, c.number)
checks-pass t ram output channel driver n name r i c k h (open-exists {i = j} o) = c.new j o
checks-pass t ram output channel driver n name r i c k h (open-name none) = none r c.reads
checks-pass t ram output channel driver n name r i c k h (open-device {r = q} e none) = none i (rw (← reads-one name r q c.reads e) c.device)
checks-pass t ram output channel driver n name r i c k h (open-driver e) = e c.driven
checks-pass t ram output channel driver n name r i c k h (open_full e) = omega (arith, c.few)
checks-pass t ram output channel driver n name r i c k h (open-room e) = omega arith

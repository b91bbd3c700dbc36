-- `exos_audit::last`: where no verdict is printed, a write that is done stands for it.
use Rattle.std.proofs.Common.{Ok, inl, inr}
use Rattle.exos_audit.proofs.last.Goals as goal

pub returns-in-Going : goal.returns-in-Going
returns-in-Going c = (
  Ok tt,
  elim c.in-Going.is [
    | inl e ↦ rw e
    | inr e ↦ rw e
  ],
)

-- `files::read_on` meets its contract.
use Rattle.std.proofs.Common.{◌∙◌, arith}
use Rattle.files.proofs.Parts.{reads_on}
use Rattle.files.proofs.read_on.Goals as goal

pub returns : goal.returns
returns g c =
    let r = c.read_after in
    let k = c.keep in
    reads_on _ _ _ r.result (omega arith) (r.ensures.1 ∙ k.ensures.0) r.ensures.0

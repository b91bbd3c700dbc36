-- `Tables::is_ready` meets its contract.
use Rattle.std.proofs.Common.{◌≡◌, true, sym}
use Rattle.kernel.specs.Definition.Good.{good_test}
use Rattle.kernel.specs.Laws.Good.{good-says}
use Rattle.kernel.proofs.Known.{sized}
use Rattle.kernel.proofs.Tables.is_ready.Goals as goal

pub returns-then-is_good : goal.returns-then-is_good
returns-then-is_good c =
    let e : good_test c.args.self ≡ true = sym c.if-is_good.ensures in
    let z = sized c.args.self _ c.well_formed.0 in
    (rw (e, c.from.ensures), λ q. (good-says c.args.self z).yes e, z)

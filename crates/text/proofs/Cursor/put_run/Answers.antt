-- `put_run` lays the bytes over the part that they take.
use Rattle.std.proofs.Common.{refl, rules}
use Rattle.std.proofs.lemmas.Slice.{overwrites}
use Rattle.text.proofs.Cursor.put_run.Goals as goal

pub returns : goal.returns
returns c = record { same = refl; long = search rules; put = record { stop = refl; text = search (rules, overwrites); behind = search (rules, overwrites) } }

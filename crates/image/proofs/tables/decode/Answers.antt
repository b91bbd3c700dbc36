-- `tables::decode` reads each field at its offset.
use Rattle.image.specs.Definition.Image.{tables_of}
use Rattle.image.proofs.tables.decode.Goals as goal

pub returns : goal.returns
unfolding tables_of
returns c =
    rw (c.run_at.ensures, c.run_at-2.ensures, c.run_at-3.ensures, c.u16_at.ensures, c.u16_at-2.ensures, c.u16_at-3.ensures, c.read_all.ensures, c.read_all-2.ensures, c.run_at-4.ensures)

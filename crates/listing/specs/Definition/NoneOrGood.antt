-- The tables that the listing carries from record to record.
use Rattle.std.specs.Prelude.{◌≡◌, ◌≤◌}
use Rattle.kernel.specs.Definition.Good.{Good}
use Rattle.kernel.specs.Definition.Start.{no_tables}
use Rattle.kernel.specs.declared.Tables.{Tables}

-- no tables before an accepted start; after it good tables, of at most the four segments that are lent
pub data NoneOrGood (t : Tables) : Type 0 where
  none : t ≡ no_tables → NoneOrGood t
  good : Good t → t.segments ≤ 4 → NoneOrGood t

-- What owning the tables tells: the lengths of their arrays.
use mathlib.Core.List.{List}
use mir.Val.{Val}
use denote.Laws.{Is}
use denote.Struct.Declared.{row}
use Rattle.kernel.specs.Definition.Good.{Sized}
use Rattle.kernel.specs.declared.Tables.{Tables}
use Rattle.kernel.specs.contracts.Tables.{the_type}

-- `sized c.args.self _ c.good.0`, where the tables are the first parameter
pub sized : (t : Tables) (vs : List Val) → Is (row the_type) t vs → Sized t
sized t vs h =
    let g = h.1.1 in
    record {
      list = g.1.0.1.0.1;
      classes = g.1.1.0.1.0.1;
      chain = g.1.1.1.1.0.1.0.1;
      channels = g.1.1.1.1.1.1.1.1.1.0.1.0.1;
      devices = g.1.1.1.1.1.1.1.1.1.1.1.0.1.0.1;
    }

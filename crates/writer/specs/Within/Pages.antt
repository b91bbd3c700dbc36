-- What comes of an item by the page rule.
use Rattle.std.specs.Prelude.{cond, ◌||◌, ℕ, Result, Ok, Err}
use Rattle.modules.specs.Definition.Counter.{after}
use Rattle.modules.specs.Definition.Judging.{outside}
use Rattle.modules.specs.declared.Item.{Item}
use Rattle.modules.specs.declared.Counter.{Counter}
use Rattle.modules.specs.declared.Refusal.TheVariants.{Page}
use Rattle.writer.specs.Definition.Writing.{page_above}
use Rattle.modules.specs.declared.Refusal.{Refusal}

abbrev pub page_act : (start : ℕ) → Counter → Item → Result Counter Refusal
page_act start c i = cond (page_above i || outside c i) (Err Page) (Ok (after start c i))

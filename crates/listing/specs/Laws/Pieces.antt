-- How the text of a log goes on, whatever follows.
use Rattle.std.specs.Prelude.{◌≡◌, List, ◌++◌, ℕ}
use Rattle.kernel.specs.declared.Tables.{Tables}
use Rattle.listing.specs.Definition.Log.{text_from}

-- the text of a log that begins with xs is `text` and then the text of a log that begins with `left`, whatever follows
pub record Carry (t : Tables) (ram out xs : List ℕ) (t' : Tables) (ram' out' left text : List ℕ) : Type 0 where
  pub holds : (ys : List ℕ) → text_from t ram out (xs ++ ys) ≡ text ++ text_from t' ram' out' (left ++ ys)

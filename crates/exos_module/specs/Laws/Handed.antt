-- What the writer puts at the front of the buffer is what is handed to the write.
use Rattle.std.specs.Prelude.{◌≡◌, Bool, List, [], ◌∷◌, ℕ, ◌+◌, ◌*◌, ◌≤◌, ltb, length, take, drop, Result, Ok, Err}
use Rattle.std.proofs.Math.Path.{refl}
use Rattle.std.proofs.Math.Bool.{true, false, cond}
use Rattle.std.proofs.Common.{arith}
use Rattle.std.proofs.Math.ListN.{length-append}
use Rattle.std.proofs.Math.Seq.{take_at}
use Rattle.modules.specs.declared.Item.{Item}
use Rattle.writer.specs.declared.Refusal.{Refusal}
use Rattle.writer.specs.declared.Refusal.TheVariants.{Page, Range}
use Rattle.writer.specs.Definition.Entries.{Listed, all, flawed, listed}
use Rattle.writer.specs.Definition.Bytes.{module_of}
use Rattle.writer.specs.Definition.Writing.{refuses_page, answer_to, put_by, written_of, reply_to, buffer_after, reply_from, buffer_from, WritesFrom}
use Rattle.exos_module.specs.Definition.Ends.{room}
use Rattle.exos_module.specs.Definition.Handed.{module_by, module_to, module_from}

-- the first n bytes of a buffer are these
abbrev Stands : (n : ℕ) (buffer bytes : List ℕ) → Type 0
Stands n buffer bytes = (take n buffer ≡ bytes) × (n ≤ length buffer)

stands-none : (buffer : List ℕ) → Stands 0 buffer []
stands-none buffer = (refl, omega arith)

module _ (page offset : ℕ) (buffer : List ℕ) where
  answered : (items : List Item) → let w = answer_to page offset items (length buffer) in Stands (written_of w) (put_by w items buffer) (module_by w items)
  unfolding answer_to
  answered items = go (refuses_page page offset items) (ltb (length buffer) (length (module_of items)))
    where
      go : (refuses short : Bool) → let w = cond refuses (Err Page) (cond short (Err Range) (Ok (length (module_of items)))) in Stands (written_of w) (put_by w items buffer) (module_by w items)
      go true short = stands-none buffer
      go false true = stands-none buffer
      go false false = (
        take_at (module_of items) (drop (length (module_of items)) buffer) (length (module_of items)) refl,
        omega (arith, length-append (module_of items) (drop (length (module_of items)) buffer)),
      )

  replied : (l : Listed) → Stands (written_of (reply_to page offset l (length buffer))) (buffer_after page offset l buffer) (module_to page offset l (length buffer))
  replied (all items) = answered items
  replied (flawed f) = stands-none buffer

from : (input buffer : List ℕ) → Stands (written_of (reply_from input (length buffer))) (buffer_from input buffer) (module_from input (length buffer))
from [] buffer = stands-none buffer
from (x ∷ []) buffer = stands-none buffer
from (x ∷ y ∷ []) buffer = stands-none buffer
from (page ∷ low ∷ high ∷ items) buffer = replied page (low + 256 * high) buffer (listed items)

module _ (input buffer : List ℕ) (r : Result ℕ Refusal) (buffer' : List ℕ) (h : length buffer ≡ room) (w : WritesFrom input buffer r buffer') where
  pub handed : (n : ℕ) → n ≡ written_of r → (take n buffer' ≡ module_from input room) × (n ≤ length buffer')
  handed n e = rw (e, w.reply-is, w.buffer-is, ← h) (from input buffer)

  pub reply-is : r ≡ reply_from input room
  reply-is = rw (← h) w.reply-is

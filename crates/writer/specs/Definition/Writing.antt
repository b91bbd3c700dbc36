-- The writer: what it answers, and what it leaves in the buffer. "A writer of order 3's stream puts a list of items .., the end item and zero padding into a lent buffer."
use Rattle.std.specs.Prelude.{◌≡◌, Bool, true, false, cond, ◌||◌, List, [], ◌∷◌, ◌++◌, ℕ, ◌+◌, ◌*◌, ltb, length, drop, Result, Ok, Err}
use Rattle.modules.specs.Definition.Counter.{past_range, counter, after}
use Rattle.modules.specs.Definition.Judging.{outside}
use Rattle.modules.specs.declared.Item.{Item}
use Rattle.modules.specs.declared.Item.TheVariants.{Byte, Word, SetPage, Restore, Move}
use Rattle.modules.specs.declared.Counter.{Counter}
use Rattle.writer.specs.Definition.Entries.{Listed, all, flawed, listed}
use Rattle.writer.specs.Definition.Bytes.{module_of}
use Rattle.writer.specs.declared.Refusal.{Refusal}
use Rattle.writer.specs.declared.Refusal.TheVariants.{NoStart, NoList, Page, Range}

-- "a page number above 3"
abbrev pub page_above : Item → Bool
page_above (Byte x) = false
page_above (Word x) = false
page_above (SetPage page) = ltb 3 page
page_above Restore = false
page_above (Move x) = false

-- "items the loader's page rule would refuse from the given start": `outside` is the loader's rule, `after` its counter
unfoldable pub refuses_from : (start : ℕ) → Counter → List Item → Bool
refuses_from start c [] = false
refuses_from start c (i ∷ items) = cond (page_above i || outside c i) true (refuses_from start (after start c i) items)

-- "or a start outside kind 30's range"
unfoldable pub refuses_page : (page offset : ℕ) → List Item → Bool
unfolding refuses_from
refuses_page page offset items = past_range page offset || refuses_from page (counter page offset) items

-- "Refusals: PAGE .., then RANGE for a short buffer"; done gives the bytes written
unfoldable pub answer_to : (page offset : ℕ) → List Item → (room : ℕ) → Result ℕ Refusal
unfolding refuses_page module_of
answer_to page offset items room =
    cond (refuses_page page offset items) (Err Page)
    (cond (ltb room (length (module_of items))) (Err Range)
    (Ok (length (module_of items))))

-- "either way the buffer stays untouched"; what is written stands at its front, and the rest of it stays
abbrev pub put_by : Result ℕ Refusal → List Item → (buffer : List ℕ) → List ℕ
put_by (Ok n) items buffer = module_of items ++ drop n buffer
put_by (Err why) items buffer = buffer

-- of bytes: where they are no list of items that is told before any refusal, and nothing is written
abbrev pub reply_to : (page offset : ℕ) → Listed → (room : ℕ) → Result ℕ Refusal
reply_to page offset (all items) room = answer_to page offset items room
reply_to page offset (flawed f) room = Err (NoList f)

abbrev pub buffer_after : (page offset : ℕ) → Listed → (buffer : List ℕ) → List ℕ
buffer_after page offset (all items) buffer = put_by (answer_to page offset items (length buffer)) items buffer
buffer_after page offset (flawed f) buffer = buffer

-- what a call of the writer leaves, with the accent
pub record Writes (page offset : ℕ) (bytes buffer : List ℕ) (r : Result ℕ Refusal) (buffer' : List ℕ) : Type 0 where
  pub reply-is : r ≡ reply_to page offset (listed bytes) (length buffer)
  pub buffer-is : buffer' ≡ buffer_after page offset (listed bytes) buffer

-- the same, of one input: start page in one byte, start offset in two, the low one first, then the list
abbrev pub reply_from : (input : List ℕ) (room : ℕ) → Result ℕ Refusal
reply_from (page ∷ low ∷ high ∷ bytes) room = reply_to page (low + 256 * high) (listed bytes) room
reply_from (page ∷ low ∷ []) room = Err NoStart
reply_from (page ∷ []) room = Err NoStart
reply_from [] room = Err NoStart

abbrev pub buffer_from : (input buffer : List ℕ) → List ℕ
buffer_from (page ∷ low ∷ high ∷ bytes) buffer = buffer_after page (low + 256 * high) (listed bytes) buffer
buffer_from (page ∷ low ∷ []) buffer = buffer
buffer_from (page ∷ []) buffer = buffer
buffer_from [] buffer = buffer

pub record WritesFrom (input buffer : List ℕ) (r : Result ℕ Refusal) (buffer' : List ℕ) : Type 0 where
  pub reply-is : r ≡ reply_from input (length buffer)
  pub buffer-is : buffer' ≡ buffer_from input buffer

-- the answers' numbers, 2 CALL where bytes are no list with a start, and the bytes written
abbrev pub answer_number : Result ℕ Refusal → ℕ
answer_number (Ok n) = 0
answer_number (Err Page) = 20
answer_number (Err Range) = 13
answer_number (Err NoStart) = 2
answer_number (Err (NoList f)) = 2

abbrev pub written_of : Result ℕ Refusal → ℕ
written_of (Ok n) = n
written_of (Err why) = 0

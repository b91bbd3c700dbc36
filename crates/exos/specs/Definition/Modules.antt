-- The writer of modules over bytes: items of three bytes each, a buffer, and ten bytes of reply.
use Rattle.std.specs.Prelude.{◌≡◌, Bool, true, false, List, ◌++◌, ℕ, eqb, length, Result}
use Rattle.modules.specs.declared.Item.{Item}
use Rattle.image.specs.Definition.Image.{u16_bytes, u64_bytes}
use Rattle.writer.specs.Definition.Entries.{Listed, all, flawed, listed}
use Rattle.writer.specs.Definition.Writing.{answer_to, put_by, answer_number, written_of}
use Rattle.writer.specs.declared.Refusal.{Refusal}

-- the answer's number in two bytes, and the bytes written in eight
abbrev pub written_bytes : Result ℕ Refusal → List ℕ
written_bytes w = u16_bytes (answer_number w) ++ u64_bytes (written_of w)

-- what an answer leaves, with the accents
pub record Answers (w : Result ℕ Refusal) (items : List Item) (buffer buffer' reply' : List ℕ) : Type 0 where
  pub buffer-is : buffer' ≡ put_by w items buffer
  pub reply-is : reply' ≡ written_bytes w

-- nothing changes
pub record Unchanged (buffer reply buffer' reply' : List ℕ) : Type 0 where
  pub buffer-is : buffer' ≡ buffer
  pub reply-is : reply' ≡ reply

-- `ten` is whether the reply has ten bytes
abbrev pub WritesBy : (ten : Bool) → Listed → (page offset : ℕ) (buffer reply buffer' reply' : List ℕ) → Bool → Type 0
WritesBy true (all items) page offset buffer reply buffer' reply' r = (r ≡ true) × Answers (answer_to page offset items (length buffer)) items buffer buffer' reply'
WritesBy true (flawed f) page offset buffer reply buffer' reply' r = (r ≡ false) × Unchanged buffer reply buffer' reply'
WritesBy false list page offset buffer reply buffer' reply' r = (r ≡ false) × Unchanged buffer reply buffer' reply'

-- the writer is asked where the reply has ten bytes, and answers a list of items; else nothing changes
abbrev pub WritesModule : (page offset : ℕ) (bytes buffer reply buffer' reply' : List ℕ) → Bool → Type 0
WritesModule page offset bytes buffer reply buffer' reply' r = WritesBy (eqb (length reply) 10) (listed bytes) page offset buffer reply buffer' reply' r

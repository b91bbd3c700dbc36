-- What a request brings, what comes of its record, and the reply to it.
use Rattle.std.specs.Prelude.{◌≡◌, List, ◌++◌, ℕ, ◌+◌, length, take, drop, replicate, Option, unwrap_or}
use Rattle.kernel.specs.Definition.Step.{Result}
use Rattle.kernel.specs.declared.Tables.{Tables}
use Rattle.kernel.specs.Definition.Lend.{lent_on, part_on}
use Rattle.text.specs.Definition.Put.{Puts}
use Rattle.text.specs.declared.Cursor.{Cursor}
use Rattle.events.specs.Definition.Records.{u8_at}
use Rattle.image.specs.Definition.Offsets.{SIZE}
use Rattle.image.specs.Definition.Image.{run_at, u64_bytes, image_of, tables_of, outcome_bytes}
use Rattle.stream.specs.Definition.Digest.{digest_of}
use Rattle.stream.specs.Definition.Seed.{seeded}
use Rattle.stream.specs.Definition.Numbers.{u32_at}
use Rattle.stream.specs.Definition.Requests.{IMAGE, RAM, SEED}
use Rattle.stream.specs.Definition.Asked.{asked_of}
use Rattle.stream.specs.declared.Machine.{Machine}

-- the tables of the image, and the RAM by its length and the seed, at the front of what is lent for it
pub record Brought (ram bytes : List ℕ) (m : Machine) (ram' : List ℕ) : Type 0 where
  pub tables-is : m.tables ≡ tables_of (run_at bytes IMAGE SIZE)
  pub size_is : m.size ≡ u32_at bytes RAM
  pub ram-is : take m.size ram' ≡ seeded (u32_at bytes RAM) (u32_at bytes SEED)
  pub behind : drop m.size ram' ≡ drop m.size ram

-- what comes of a record on n bytes of output, all 165
abbrev pub asked_blank : (first : ℕ) → Tables → (ram event : List ℕ) (n : ℕ) → Result
asked_blank first t ram event n = asked_of first t ram event (replicate n 165)

-- a record's third byte, with which an event's body begins, 0 where there is none: the channel, where the call has one
abbrev pub channel_in : (event : List ℕ) → ℕ
channel_in event = u8_at event 2

-- where the part that is lent starts, 0 where nothing is lent: no part starts there, in the page zero segment
abbrev pub start_of : Option ℕ → ℕ
start_of lent = unwrap_or lent 0

-- of a channel's buffer lent on: where its part of the RAM starts, and its digest
abbrev pub lent_bytes : Tables → (ram : List ℕ) (channel : ℕ) → List ℕ
lent_bytes t ram channel = u64_bytes (start_of (lent_on t (length ram) channel)) ++ u64_bytes (digest_of (part_on t ram channel))

-- answer number, a and b, and the bytes moved; the digests of the image, of the RAM and of the output after the call; and of a channel's buffer lent on after it
abbrev pub reply_bytes : Result → (channel : ℕ) → List ℕ
reply_bytes s channel =
    outcome_bytes s.answer s.moved ++ u64_bytes (digest_of (image_of s.tables)) ++ u64_bytes (digest_of s.ram) ++ u64_bytes (digest_of s.output) ++ lent_bytes s.tables s.ram channel

-- what a request leaves, with the accents, and its reply at a cursor
pub record Replied (first : ℕ) (t : Tables) (ram event out : List ℕ) (to : Cursor) (t' : Tables) (ram' out' : List ℕ) (to' : Cursor) : Type 0 where
  pub tables-is : t' ≡ (asked_blank first t ram event (length out)).tables
  pub ram-is : ram' ≡ (asked_blank first t ram event (length out)).ram
  pub out-is : out' ≡ (asked_blank first t ram event (length out)).output
  pub reply-is : Puts to to' (reply_bytes (asked_blank first t ram event (length out)) (channel_in event))
  pub fifty : to'.at ≡ to.at + 50

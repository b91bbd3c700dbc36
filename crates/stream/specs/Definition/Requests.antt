-- Where a request ends. Its first byte is 0, for an event record; 2, for a list of items to the writer of modules; or 1 before an image, the RAM's length and a seed of 4 bytes
-- each, and an event record.
use Rattle.std.specs.Prelude.{◌≡◌, cond, not, List, ℕ, ◌+◌, ◌<◌, ◌≤◌, eqb, ltb, length, Result, Ok, Err, IfOk}
use Rattle.events.specs.Definition.Records.{u8_at, u16_at}
use Rattle.image.specs.Definition.Offsets.{SIZE}
use Rattle.stream.specs.Definition.Numbers.{u32_at}
use Rattle.stream.specs.declared.Request.{Request}
use Rattle.stream.specs.declared.NoRequest.{NoRequest}
use Rattle.stream.specs.declared.NoRequest.TheVariants.{Part, Bad}

-- where the image, the RAM's length, the seed and the call stand
abbrev pub IMAGE : ℕ
IMAGE = 1

abbrev pub RAM : ℕ
RAM = IMAGE + SIZE

abbrev pub SEED : ℕ
SEED = RAM + 4

abbrev pub CALL : ℕ
CALL = SEED + 4

-- the output's length and the record's length, of 2 bytes each, and the record, of 2 bytes or more
unfoldable pub call_at : (bytes : List ℕ) (at : ℕ) → Result Request NoRequest
call_at bytes at =
    let start = at + 4 in
    let end = start + u16_at bytes (at + 2) in
    cond (ltb (length bytes) start) (Err Part)
    (cond (ltb end (start + 2)) (Err Bad)
    (cond (ltb (length bytes) end) (Err Part)
    (Ok (record { out = u16_at bytes at; start = start; end = end }))))

-- what bytes begin with; docs/STREAM.md has the stream in words
unfoldable pub request_in : List ℕ → Result Request NoRequest
unfolding call_at
request_in bytes =
    cond (ltb (length bytes) 1) (Err Part)
    (cond (eqb (u8_at bytes 0) 0) (call_at bytes 1)
    (cond (eqb (u8_at bytes 0) 2) (call_at bytes 1)
    (cond (not (eqb (u8_at bytes 0) 1)) (Err Bad)
    (cond (ltb (length bytes) CALL) (Err Part)
    (cond (ltb 524288 (u32_at bytes RAM)) (Err Bad)
    (call_at bytes CALL))))))

-- the record has two bytes or more and lies in the bytes, and the output's length fits two bytes
pub record Spans (bytes : List ℕ) (q : Request) : Type 0 where
  pub kind : q.start + 2 ≤ q.end
  pub within : q.end ≤ length bytes
  pub lent : q.out < 65536

-- a first byte 1 brings an image, a RAM's length and a seed
abbrev pub Brings : List ℕ → Type 0
Brings bytes = u8_at bytes 0 ≡ 1 → (CALL ≤ length bytes) × (u32_at bytes RAM ≤ 524288)

-- a whole request lies in the bytes
abbrev pub CallLiesIn : List ℕ → Result Request NoRequest → Type 0
CallLiesIn bytes r = IfOk r (Spans bytes)

abbrev pub LiesIn : List ℕ → Result Request NoRequest → Type 0
LiesIn bytes r = IfOk r (λ q. Spans bytes q × (1 ≤ length bytes) × Brings bytes)

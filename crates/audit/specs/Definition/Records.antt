-- A record of a maker's log where it stands: right, or at fault by a word.
use Rattle.std.specs.Prelude.{◌≡◌, List, ℕ, replicate}
use Rattle.kernel.specs.Definition.Answers.{number_of}
use Rattle.kernel.specs.Definition.Start.{no_tables}
use Rattle.kernel.specs.Definition.Step.{Result}
use Rattle.kernel.specs.declared.Answer.{Answer}
use Rattle.kernel.specs.declared.Tables.{Tables}
use Rattle.listing.specs.Definition.Log.{log_step}
use Rattle.audit.specs.declared.Due.{Due}
use Rattle.audit.specs.declared.Due.TheVariants.{Start, Event, Reply as ReplyTo}
use Rattle.audit.specs.declared.Word.{Word}
use Rattle.audit.specs.declared.Word.TheVariants.{Start as StartWord, Cut as CutWord, Answer as AnswerWord, A as AWord, B as BWord, Bytes as BytesWord}
use Rattle.audit.specs.Definition.Replies.{Reply, reply_of, reply_in, Sized}

-- what is carried from record to record: what the next one must be, and the definition's tables, RAM and output
pub record State : Type 0 where
  pub due : Due
  pub tables : Tables
  pub ram : List ℕ
  pub output : List ℕ

-- "RAM is lent as in the listing program, output 4,090 bytes."; a log must "begin with an accepted start"
abbrev pub begins : State
begins = record { due = Start; tables = no_tables; ram = replicate 65536 0; output = replicate 4090 0 }

-- what the definition makes of an event
abbrev pub called : State → (kind : ℕ) (body : List ℕ) → Result
called s kind body = log_step s.tables s.ram s.output kind body

-- "event records, each followed by a reply record": after an event its reply is due, after a reply an event
abbrev pub asked : State → (kind : ℕ) (body : List ℕ) → State
asked s kind body =
    let r = called s kind body in
    record { due = ReplyTo kind r.answer; tables = r.tables; ram = r.ram; output = r.output }

abbrev pub answered : State → State
answered s = record { due = Event; tables = s.tables; ram = s.ram; output = s.output }

-- "an accepted start"
abbrev pub IsStart : State → (kind : ℕ) (body : List ℕ) → Type 0
IsStart s kind body = (kind ≡ 256) × (number_of (called s kind body).answer ≡ 0)

-- a record that is right, and what it leaves: an accepted start where the log begins; any event where one is due; where a reply is due, "a reply record of kind 512",
-- not ill-sized, with the definition's reply
pub data Right (s : State) (kind : ℕ) (body : List ℕ) : State → Type 0 where
  start : s.due ≡ Start → IsStart s kind body → Right s kind body (asked s kind body)
  event : s.due ≡ Event → (kind ≡ 512 → ⊥) → Right s kind body (asked s kind body)
  reply : {of : ℕ} {answer : Answer} → s.due ≡ ReplyTo of answer → kind ≡ 512 → Sized of body → reply_in body ≡ reply_of of answer s.output
      → Right s kind body (answered s)

-- "the first of `answer`, `a`, `b`, `bytes` that differs"
pub data Differs (theirs ours : Reply) : Word → Type 0 where
  in-answer : (theirs.answer ≡ ours.answer → ⊥) → Differs theirs ours AnswerWord
  in-a : theirs.answer ≡ ours.answer → (theirs.a ≡ ours.a → ⊥) → Differs theirs ours AWord
  in_b : theirs.answer ≡ ours.answer → theirs.a ≡ ours.a → (theirs.b ≡ ours.b → ⊥) → Differs theirs ours BWord
  in_bytes : theirs.answer ≡ ours.answer → theirs.a ≡ ours.a → theirs.b ≡ ours.b → (theirs.bytes ≡ ours.bytes → ⊥) → Differs theirs ours BytesWord

-- a whole record that is at fault, and its word: "without a whole accepted start"; "`cut` .. for a[n] .. ill-sized .. or misplaced record"; or a reply that differs
pub data Wrong (s : State) (kind : ℕ) (body : List ℕ) : Word → Type 0 where
  no_start : s.due ≡ Start → (IsStart s kind body → ⊥) → Wrong s kind body StartWord
  no-event : s.due ≡ Event → kind ≡ 512 → Wrong s kind body CutWord
  no-reply : {of : ℕ} {answer : Answer} → s.due ≡ ReplyTo of answer → (kind ≡ 512 → ⊥) → Wrong s kind body CutWord
  ill-sized : {of : ℕ} {answer : Answer} → s.due ≡ ReplyTo of answer → kind ≡ 512 → (Sized of body → ⊥) → Wrong s kind body CutWord
  differs : {of : ℕ} {answer : Answer} {word : Word} → s.due ≡ ReplyTo of answer → kind ≡ 512 → Sized of body
      → Differs (reply_in body) (reply_of of answer s.output) word → Wrong s kind body word

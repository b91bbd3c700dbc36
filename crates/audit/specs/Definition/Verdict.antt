-- The verdict on a maker's log, computed record by record.
use Rattle.std.specs.Prelude.{Bool, true, false, cond, ◌&&◌, List, ℕ, zero, suc, ◌+◌, length, eqb, Result, Ok, Err}
use Rattle.std.specs.Str.{bytes_eq}
use Rattle.kernel.specs.Definition.Answers.{number_of}
use Rattle.kernel.specs.declared.Answer.{Answer}
use Rattle.events.specs.declared.NoRecord.TheVariants.{Cut, Bad}
use Rattle.events.specs.Definition.Records.{Front, front_of, body_of, rest_of}
use Rattle.audit.specs.declared.Due.{Due}
use Rattle.audit.specs.declared.Due.TheVariants.{Start, Event, Reply as ReplyTo}
use Rattle.audit.specs.declared.Fault.{Fault as FirstAt}
use Rattle.audit.specs.declared.Word.{Word}
use Rattle.audit.specs.declared.Word.TheVariants.{Start as StartWord, Cut as CutWord, Answer as AnswerWord, A as AWord, B as BWord, Bytes as BytesWord}
use Rattle.audit.specs.Definition.Replies.{Reply, printed, reply_of, reply_in}
use Rattle.audit.specs.Definition.Records.{State, begins, called, asked, answered}
use Rattle.audit.specs.Definition.Log.{Accepted as IsAccepted, first, lacking_of, FirstFault}

-- what a record is found to be: right, or at fault by a word
abbrev pub Found : Type 0
Found = Result (Unit {0}) Word

-- a log is accepted, or a record is the first at fault
abbrev pub Verdict : Type 0
Verdict = Result (Unit {0}) FirstAt

abbrev pub Accepted : Verdict
Accepted = Ok tt

abbrev pub Fault : (number : ℕ) → Word → Verdict
Fault number word = Err (record { number = number; word = word })

-- at fault by this word unless a test passes
abbrev pub unless : Bool → Word → Found → Found
unless true word found = found
unless false word found = Err word

-- a reply: "`cut` .. for a[n] .. ill-sized .. record", then "the first of `answer`, `a`, `b`, `bytes` that differs"
unfoldable pub judged : (kind : ℕ) (body : List ℕ) → Reply → Found
judged kind body ours =
    let theirs = reply_in body in
    unless (eqb (length body) (4 + printed kind theirs.answer theirs.b)) CutWord
    (unless (eqb theirs.answer ours.answer) AnswerWord
    (unless (eqb theirs.a ours.a) AWord
    (unless (eqb theirs.b ours.b) BWord
    (unless (bytes_eq theirs.bytes ours.bytes) BytesWord
    (Ok tt)))))

-- "an accepted start"
abbrev pub started : (kind : ℕ) → Answer → Found
started kind answer = unless (eqb kind 256) StartWord (unless (eqb (number_of answer) 0) StartWord (Ok tt))

-- what a record leaves, or the word by which it is at fault
abbrev pub Next : Type 0
Next = Result State Word

abbrev pub goes : Found → State → Next
goes (Ok right) s = Ok s
goes (Err word) s = Err word

abbrev pub next_by : Due → State → (kind : ℕ) (body : List ℕ) → Next
next_by Start s kind body = goes (started kind (called s kind body).answer) (asked s kind body)
next_by Event s kind body = cond (eqb kind 512) (Err CutWord) (Ok (asked s kind body))
next_by (ReplyTo of answer) s kind body = cond (eqb kind 512) (goes (judged of body (reply_of of answer s.output)) (answered s)) (Err CutWord)

unfoldable pub next : State → (kind : ℕ) (body : List ℕ) → Next
next s kind body = next_by s.due s kind body

-- a log may end where an event is due
abbrev pub may_end : Due → Bool
may_end Start = false
may_end Event = true
may_end (ReplyTo of answer) = false

-- where the input ends and so many bytes are left, less than a record
abbrev pub at_end : (number : ℕ) → Due → (left : ℕ) → Verdict
at_end number due left = cond (may_end due && eqb left 0) Accepted (Fault number (lacking_of due))

-- after a record: `more` for the rest of the log, or a fault
abbrev pub goes_on : (more : (number : ℕ) → State → List ℕ → Verdict) → (number : ℕ) (rest : List ℕ) → Next → Verdict
goes_on more number rest (Ok s) = more (number + 1) s rest
goes_on more number rest (Err word) = Fault number word

unfoldable pub turn : (more : (number : ℕ) → State → List ℕ → Verdict) → (number : ℕ) → State → (xs : List ℕ) → Front → Verdict
turn more number s xs (Err Cut) = at_end number s.due (length xs)
turn more number s xs (Err Bad) = Fault number (lacking_of s.due)
turn more number s xs (Ok r) = goes_on more number (rest_of xs r.size) (next s r.kind (body_of xs r.size))

-- at most k records
unfoldable pub verdict_in : (k : ℕ) (number : ℕ) → State → (xs : List ℕ) → Verdict
verdict_in zero number s xs = at_end number s.due (length xs)
verdict_in (suc k) number s xs = turn (verdict_in k) number s xs (front_of xs)

-- from a record on; a record takes four bytes, so that there are turns enough
unfoldable pub verdict_from : (number : ℕ) → State → (xs : List ℕ) → Verdict
verdict_from number s xs = verdict_in (length xs) number s xs

unfoldable pub verdict_of : (log : List ℕ) → Verdict
verdict_of log = verdict_from 0 begins log

-- what a verdict says of a log
abbrev pub Means : (log : List ℕ) → Verdict → Type 0
Means log (Ok accepted) = IsAccepted log
Means log (Err fault) = FirstFault (first log) fault.number fault.word

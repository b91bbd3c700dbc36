-- Sequences of calls since an accepted start, each made on the tables and RAM the last one left, and what their own calls and answers say of a byte
-- and of the size of a buffer.
use Rattle.std.specs.Prelude.{◌≡◌, true, false, ◌&&◌, ◌≢◌, List, [], ◌∷◌, ℕ, ◌+◌, ◌-◌, ◌≤◌, ◌<◌, length, get_or}
use Rattle.line.specs.Definition.Given.{given_of}
use Rattle.modules.specs.Definition.Counter.{Put}
use Rattle.modules.specs.Definition.Judging.{puts_in}
use Rattle.kernel.specs.Definition.Answers.{b_of, granted}
use Rattle.kernel.specs.Definition.Calls.{Call, start, «open», read, write, store, load-module, is_start}
use Rattle.kernel.specs.Definition.Step.{step}
use Rattle.kernel.specs.declared.Tables.{Tables}
use Rattle.kernel.specs.declared.Answer.{Answer}
use Rattle.kernel.specs.declared.Answer.TheVariants.{Done}

-- what a call is made on
pub record State : Type 0 where
  pub tables : Tables
  pub ram : List ℕ

-- a call and its reply: the answer, the lent output as the call left it, and how many bytes it moved
pub record Event : Type 0 where
  pub call : Call
  pub answer : Answer
  pub output : List ℕ
  pub moved : ℕ

-- the last event first
abbrev pub History : Type 0
History = List Event

-- the tables and the RAM that a call leaves, and the call with its reply; `output` is what is lent
abbrev pub after : State → Call → (output : List ℕ) → State
after s c output =
    let r = step s.tables s.ram c output in
    record { tables = r.tables; ram = r.ram }

abbrev pub event : State → Call → (output : List ℕ) → Event
event s c output =
    let r = step s.tables s.ram c output in
    record { call = c; answer = r.answer; output = r.output; moved = r.moved }

-- s is what an accepted start leaves, whatever the tables and RAM before
pub record Started (s : State) : Type 0 where
  pub before : State
  pub room : ℕ
  pub list : List ℕ
  pub output : List ℕ
  pub accepted : granted (event before (start room list) output).answer ≡ true
  pub left : s ≡ after before (start room list) output

-- an event that is no accepted start
abbrev pub NotAccepted : Event → Type 0
NotAccepted e = is_start e.call && granted e.answer ≡ false

-- From s the calls of a history, with no accepted start among them, lead to a state; and all states on the way, the first and the last among them, have P.
pub data Runs (P : State → Type 0) (s : State) : History → State → Type 0 where
  stay : P s → Runs P s [] s
  then : {h : History} {t : State} → Runs P s h t → (c : Call) (output : List ℕ) → NotAccepted (event t c output) → P (after t c output)
      → Runs P s (event t c output ∷ h) (after t c output)

abbrev pub Any : State → Type 0
Any s = Unit {0}

-- any sequence of calls since an accepted start, with no second start
pub record Run (h : History) (t : State) : Type 0 where
  pub first : State
  pub started : Started first
  pub runs : Runs Any first h t

-- the number, a byte or a size, that the events of a history last made, or `first` if none did: Makes e x says that the event e makes it x
pub data Last (Makes : Event → ℕ → Type 0) (first : ℕ) : History → ℕ → Type 0 where
  never : Last Makes first [] first
  now : {e : Event} {h : History} {x : ℕ} → Makes e x → Last Makes first (e ∷ h) x
  before : {e : Event} {h : History} {x : ℕ} → ((y : ℕ) → ¬ Makes e y) → Last Makes first h x → Last Makes first (e ∷ h) x

-- byte k of a channel's buffer: a done open of the channel makes it zero, a done write through it what is written there
pub data Writes (channel k : ℕ) (e : Event) : ℕ → Type 0 where
  opened : {driver n : ℕ} {name : List ℕ} → granted e.answer ≡ true → e.call ≡ «open» channel driver n name → Writes channel k e 0
  wrote : {offset : ℕ} {bytes : List ℕ} → granted e.answer ≡ true → e.call ≡ write channel offset bytes → offset ≤ k → k < offset + length bytes
      → Writes channel k e (get_or bytes (k - offset) 0)

-- "the one last written there through that channel since its opening, or zero if none was"
abbrev pub LastWritten : (channel k : ℕ) → History → ℕ → Type 0
LastWritten channel k = Last (Writes channel k) 0

-- of the bytes that a load of a module puts, in their order: none is put at offset k
abbrev pub NonePut : (k : ℕ) → List Put → Type 0
NonePut k [] = Unit {0}
NonePut k (p ∷ puts) = (p.offset ≢ k) × NonePut k puts

-- the last of them that is put at offset k is x
pub data LastPut (k : ℕ) : List Put → ℕ → Type 0 where
  last : {p : Put} {puts : List Put} → p.offset ≡ k → NonePut k puts → LastPut k (p ∷ puts) p.byte
  later : {p : Put} {puts : List Put} {x : ℕ} → LastPut k puts x → LastPut k (p ∷ puts) x

-- byte k of a segment: a done store there makes it what is stored. "Condition 3 reads a load as one user store per byte" (order 3): a done load of a
-- module that puts bytes there makes it the last of them
pub data Stores (segment k : ℕ) (e : Event) : ℕ → Type 0 where
  put : {offset : ℕ} {bytes : List ℕ} → granted e.answer ≡ true → e.call ≡ store segment offset bytes → offset ≤ k → k < offset + length bytes
      → Stores segment k e (get_or bytes (k - offset) 0)
  loaded : {page offset x : ℕ} {stream : List ℕ} → granted e.answer ≡ true → e.call ≡ load-module segment page offset stream
      → LastPut k (puts_in page offset stream) x → Stores segment k e x

-- the byte last stored there, or `first` if none was
abbrev pub LastStored : (segment k first : ℕ) → History → ℕ → Type 0
LastStored segment k first = Last (Stores segment k) first

-- the size n of a channel's buffer: a done open of the channel makes it the n that the open asks for
pub data Sizes (channel : ℕ) (e : Event) : ℕ → Type 0 where
  sized : {driver n : ℕ} {name : List ℕ} → granted e.answer ≡ true → e.call ≡ «open» channel driver n name → Sizes channel e n

-- the size that the channel was last opened with, or 0 if it never was
abbrev pub LastSize : (channel : ℕ) → History → ℕ → Type 0
LastSize channel = Last (Sizes channel) 0

-- "The byte rule of condition 3 speaks of the bytes given" (order 2): what the done read e gave after the history h, of a buffer of n bytes
pub record ReadRight (channel offset asked : ℕ) (h : History) (e : Event) : Type 0 where
  pub n : ℕ
  pub opened_with : LastSize channel h n
  -- "the bytes that remain, up to the length asked; b is their number, 0 at or past the end"
  pub given : e.answer ≡ Done 0 (given_of n offset asked)
  -- all that was asked, wherever the buffer has it; where it has not, all up to the end; none at or past it
  pub whole : offset + asked ≤ n → b_of e.answer ≡ asked
  pub rest : offset ≤ n → n ≤ offset + asked → offset + b_of e.answer ≡ n
  pub past : n ≤ offset → b_of e.answer ≡ 0
  -- they are in the output, and each "is the one last written there"
  pub fits : b_of e.answer ≤ length e.output
  pub bytes : (i : ℕ) → i < b_of e.answer → LastWritten channel (offset + i) h (get_or e.output i 0)

-- every done read of a history gave what it should, by the events before it
abbrev pub ReadsRight : History → Type 0
ReadsRight [] = Unit {0}
ReadsRight (e ∷ h) =
    ((channel offset asked : ℕ) → e.call ≡ read channel offset asked → granted e.answer ≡ true → ReadRight channel offset asked h e) × ReadsRight h

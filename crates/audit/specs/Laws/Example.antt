-- The customer's own case: a board that compares 256-byte pages grants a request four bytes too large. Its log is `logs/four-bytes.maker`, and its verdict `11 answer`.
use Rattle.std.specs.Prelude.{◌≡◌, refl, List, [], ◌∷◌, ℕ, zero, suc, ◌+◌, ◌*◌, length, get_or, drop, replicate, Ok}
use Rattle.std.proofs.Common.{ap, ◌∙◌, arith}
use Rattle.std.proofs.lemmas.List.{length-replicate}
use Rattle.rows.specs.Definition.Lists.{up_to}
use Rattle.rows.specs.Definition.Sizes.{chain_length, boundary_at}
use Rattle.kernel.specs.Definition.Answers.{number_of}
use Rattle.kernel.specs.Definition.Calls.{Call}
use Rattle.kernel.specs.Definition.Line.{grown, shrunk}
use Rattle.kernel.specs.Definition.Start.{no_tables}
use Rattle.kernel.specs.Definition.Step.{Result, decided, completed}
use Rattle.kernel.specs.declared.Tables.{Tables}
use Rattle.events.specs.Definition.Records.{u16_at, front_of, body_of, rest_of, start_in, open_in, set_user_boundary_in, allocate_in, call_in}
use Rattle.text.specs.Definition.Text.{letters}
use Rattle.listing.specs.Definition.Log.{shows_of, lent_to}
use Rattle.listing.specs.Laws.Log.{log-full}
use Rattle.listing.specs.Laws.Reading.{joined}
use Rattle.audit.specs.declared.Due.{Due}
use Rattle.audit.specs.declared.Due.TheVariants.{Start, Event, Reply as ReplyTo}
use Rattle.audit.specs.declared.Word.TheVariants.{Answer as AnswerWord}
use Rattle.audit.specs.Definition.Records.{called, asked, Right, start, event}
use Rattle.audit.specs.Definition.Verdict.{Fault, judged, next, verdict_from, verdict_of}
use Rattle.audit.specs.Definition.Pieces.{state_of}
use Rattle.audit.specs.Laws.Records.{right-next}
use Rattle.audit.specs.Laws.Turns.{verdict-right, verdict-wrong}

-- start 11074 252 253 254 255; allocate user, three times: the third is SHARED; set user boundary 10000; open 5 0 1062 "VIDEO:", which the board grants
abbrev pub records : List (List ℕ)
records =
    (8 ∷ 0 ∷ 0 ∷ 1 ∷ 0x42 ∷ 0x2B ∷ 252 ∷ 253 ∷ 254 ∷ 255 ∷ [])
    ∷ (6 ∷ 0 ∷ 0 ∷ 2 ∷ 0 ∷ 4 ∷ 0x42 ∷ 0x2B ∷ [])
    ∷ (3 ∷ 0 ∷ 24 ∷ 0 ∷ 0 ∷ [])
    ∷ (6 ∷ 0 ∷ 0 ∷ 2 ∷ 0 ∷ 253 ∷ 0 ∷ 0x40 ∷ [])
    ∷ (3 ∷ 0 ∷ 24 ∷ 0 ∷ 0 ∷ [])
    ∷ (6 ∷ 0 ∷ 0 ∷ 2 ∷ 0 ∷ 254 ∷ 0 ∷ 0x40 ∷ [])
    ∷ (3 ∷ 0 ∷ 24 ∷ 0 ∷ 0 ∷ [])
    ∷ (6 ∷ 0 ∷ 0 ∷ 2 ∷ 17 ∷ 255 ∷ 0x42 ∷ 0x2B ∷ [])
    ∷ (4 ∷ 0 ∷ 23 ∷ 0 ∷ 0x10 ∷ 0x27 ∷ [])
    ∷ (6 ∷ 0 ∷ 0 ∷ 2 ∷ 0 ∷ 0 ∷ 0 ∷ 0 ∷ [])
    ∷ (12 ∷ 0 ∷ 1 ∷ 0 ∷ 5 ∷ 0 ∷ 0x26 ∷ 4 ∷ letters "VIDEO:")
    ∷ (6 ∷ 0 ∷ 0 ∷ 2 ∷ 0 ∷ 0 ∷ 0 ∷ 0 ∷ [])
    ∷ []

-- an event's step, with what its call leaves computed by the lengths of RAM and output alone
module _ (number : ℕ) (due : Due) (t : Tables) (ram out xs : List ℕ) (kind n : ℕ) (h : length ram ≡ 65536) (g : length out ≡ 4090)
    (l : lent_to t.segments kind (length (body_of xs n)) ≡ 65536) where
  called_is : called (state_of due t ram out) kind (body_of xs n) ≡ completed t (decided t 65536 4090 (call_in kind (body_of xs n))) ram out
  called_is = rw (← g) (log-full t ram out kind (body_of xs n) l h)

  stepped : front_of xs ≡ Ok (record { kind = kind; size = n }) → Right (state_of due t ram out) kind (body_of xs n) (asked (state_of due t ram out) kind (body_of xs n))
      → let r = completed t (decided t 65536 4090 (call_in kind (body_of xs n))) ram out in
      verdict_from number (state_of due t ram out) xs ≡ verdict_from (number + 1) (state_of (ReplyTo kind r.answer) r.tables r.ram r.output) (rest_of xs n)
  stepped f r = rw called_is at (verdict-right number (state_of due t ram out) xs (record { kind = kind; size = n }) f (asked (state_of due t ram out) kind (body_of xs n)) (right-next _ kind (body_of xs n) r))

call_at : ℕ → Call
unfolding call_in start_in open_in set_user_boundary_in allocate_in
call_at k = call_in (u16_at (get_or records (2 * k) []) 2) (drop 4 (get_or records (2 * k) []))

-- the definition's tables before event k
before : ℕ → Tables
unfolding call_at decided no_tables up_to chain_length boundary_at grown shrunk
before zero = no_tables
before (suc k) = (decided (before k) 65536 4090 (call_at k)).tables

-- from event k on, whatever the bytes of RAM and output
abbrev Says : (k : ℕ) → Due → Type 0
Says k due = (ram out : List ℕ) → length ram ≡ 65536 → length out ≡ 4090
    → verdict_from (2 * k) (state_of due (before k) ram out) (joined (drop (2 * k) records)) ≡ Fault 11 AnswerWord

-- the definition refuses the open with 9, and the board's reply has 0
said-5 : Says 5 Event
unfolding before call_at completed front_of lent_to shows_of judged next
said-5 ram out h g =
    stepped 10 Event (before 5) ram out (joined (drop 10 records)) 1 10 h g refl refl (event refl (λ e. absurd (omega (arith, e))))
    ∙ verdict-wrong 11 _ (drop 14 (joined (drop 10 records))) (record { kind = 512; size = 4 }) refl AnswerWord refl

said-4 : Says 4 Event
unfolding before call_at completed front_of lent_to shows_of judged next
said-4 ram out h g =
    stepped 8 Event (before 4) ram out (joined (drop 8 records)) 23 2 h g refl refl (event refl (λ e. absurd (omega (arith, e))))
    ∙ verdict-right 9 _ (drop 6 (joined (drop 8 records))) (record { kind = 512; size = 4 }) refl (state_of Event (before 5) ram out) refl
    ∙ said-5 ram out h g

said-3 : Says 3 Event
unfolding before call_at completed front_of lent_to shows_of judged next
said-3 ram out h g =
    stepped 6 Event (before 3) ram out (joined (drop 6 records)) 24 1 h g refl refl (event refl (λ e. absurd (omega (arith, e))))
    ∙ verdict-right 7 _ (drop 5 (joined (drop 6 records))) (record { kind = 512; size = 4 }) refl (state_of Event (before 4) ram out) refl
    ∙ said-4 ram out h g

said-2 : Says 2 Event
unfolding before call_at completed front_of lent_to shows_of judged next
said-2 ram out h g =
    stepped 4 Event (before 2) ram out (joined (drop 4 records)) 24 1 h g refl refl (event refl (λ e. absurd (omega (arith, e))))
    ∙ verdict-right 5 _ (drop 5 (joined (drop 4 records))) (record { kind = 512; size = 4 }) refl (state_of Event (before 3) ram out) refl
    ∙ said-3 ram out h g

said-1 : Says 1 Event
unfolding before call_at completed front_of lent_to shows_of judged next
said-1 ram out h g =
    stepped 2 Event (before 1) ram out (joined (drop 2 records)) 24 1 h g refl refl (event refl (λ e. absurd (omega (arith, e))))
    ∙ verdict-right 3 _ (drop 5 (joined (drop 2 records))) (record { kind = 512; size = 4 }) refl (state_of Event (before 2) ram out) refl
    ∙ said-2 ram out h g

said-0 : Says 0 Start
unfolding before call_at completed front_of lent_to shows_of judged next
said-0 ram out h g =
    let accepted = ap (λ (r : Result). number_of r.answer) (called_is 0 Start no_tables ram out (joined records) 256 6 h g refl) in
    stepped 0 Start (before 0) ram out (joined records) 256 6 h g refl refl (start refl (refl, accepted))
    ∙ verdict-right 1 _ (drop 10 (joined records)) (record { kind = 512; size = 4 }) refl (state_of Event (before 1) (replicate (length ram) 0) out) refl
    ∙ said-1 (replicate (length ram) 0) out (length-replicate (length ram) 0 ∙ h) g

pub four_bytes : verdict_of (joined records) ≡ Fault 11 AnswerWord
unfolding verdict_of before
four_bytes = said-0 (replicate 65536 0) (replicate 4090 0) (length-replicate {A = ℕ} 65536 0) (length-replicate {A = ℕ} 4090 0)

-- "Without a whole accepted start, an empty log included, that is `0 start`.": then, and then only.
use Rattle.std.specs.Prelude.{◌≡◌, refl, List, ◌⊎◌, ℕ, ◌+◌, ◌≤◌, Ok, Err}
use Rattle.std.proofs.Common.{ap, ◌∙◌, inl, inr, arith}
use Rattle.events.specs.declared.NoRecord.TheVariants.{Cut, Bad}
use Rattle.events.specs.declared.Record.{Record}
use Rattle.events.specs.Definition.Records.{Front, front_of, body_of}
use Rattle.audit.specs.declared.Due.{Due}
use Rattle.audit.specs.declared.Due.TheVariants.{Start, Event, Reply as ReplyTo}
use Rattle.audit.specs.declared.Word.{Word}
use Rattle.audit.specs.declared.Word.TheVariants.{Start as StartWord, Cut as CutWord, Answer as AnswerWord, A as AWord, B as BWord, Bytes as BytesWord}
use Rattle.audit.specs.Definition.Records.{State, begins, IsStart, Right, start, event, reply, Differs, in-answer, in-a, in_b, in_bytes, Wrong, no_start, no-event, no-reply, ill-sized, differs}
use Rattle.audit.specs.Definition.Log.{Mark, first, Walks, stay, pass, Begins, lacking_of, bad, whole, AtFault, stands, ends, FirstFault}
use Rattle.audit.specs.Definition.Verdict.{Fault, verdict_of}
use Rattle.audit.specs.Laws.Records.{right-next, wrong-next}
use Rattle.audit.specs.Laws.Verdicts.{names-exactly}

-- whether the start is due, and whether a word is `start`
abbrev start_due : Due → ℕ
start_due Start = 1
start_due Event = 0
start_due (ReplyTo kind answer) = 0

abbrev start_word : Word → ℕ
start_word StartWord = 1
start_word CutWord = 0
start_word AnswerWord = 0
start_word AWord = 0
start_word BWord = 0
start_word BytesWord = 0

-- behind a record that is right no start is due
behind : {s : State} {kind : ℕ} {body : List ℕ} {to : State} → Right s kind body to → start_due to.due ≡ 0
behind (start e h) = refl
behind (event e n) = refl
behind (reply e k z q) = refl

gone : {from m : Mark} → Walks from m → (m ≡ from) ⊎ ((from.number + 1 ≤ m.number) × (start_due m.state.due ≡ 0))
gone stay = inl refl
gone (pass {m = from} {to = m} e r w) = elim (gone w) [
  | inl q ↦ inr (omega (arith, ap (λ (x : Mark). x.number) q), ap (λ (x : Mark). start_due x.state.due) q ∙ behind r)
  | inr (l, z) ↦ inr (omega (arith, l), z)
]

-- the word is `start` where the start is due, and nowhere else
differing : {theirs ours : _} {word : Word} → Differs theirs ours word → start_word word ≡ 0
differing (in-answer n) = refl
differing (in-a e n) = refl
differing (in_b e f n) = refl
differing (in_bytes e f g n) = refl

lacking : (d : Due) → start_word (lacking_of d) ≡ start_due d
lacking Start = refl
lacking Event = refl
lacking (ReplyTo kind answer) = refl

wrong_word : {s : State} {kind : ℕ} {body : List ℕ} {word : Word} → Wrong s kind body word → start_word word ≡ start_due s.due
wrong_word (no_start e h) = rw e
wrong_word (no-event e k) = rw e
wrong_word (no-reply e n) = rw e
wrong_word (ill-sized e k z) = rw e
wrong_word (differs e k z d) = rw (e, differing d)

fault-word : (m : Mark) (word : Word) → AtFault m word → start_word word ≡ start_due m.state.due
fault-word m word (stands (bad e)) = lacking m.state.due
fault-word m word (stands (whole e w)) = wrong_word w
fault-word m word (ends c h) = lacking m.state.due

is-start : (word : Word) → start_word word ≡ 1 → word ≡ StartWord
is-start StartWord e = refl
is-start CutWord e = absurd (omega arith)
is-start AnswerWord e = absurd (omega arith)
is-start AWord e = absurd (omega arith)
is-start BWord e = absurd (omega arith)
is-start BytesWord e = absurd (omega arith)

-- record 0 is at fault by `start` alone, so that `0 cut` never comes; and no other record is
pub start-alone : (log : List ℕ) (number : ℕ) (word : Word) → verdict_of log ≡ Fault number word → (number ≡ 0 → word ≡ StartWord) × (word ≡ StartWord → number ≡ 0)
start-alone log number word v =
    let f = (names-exactly log number word).0 v in
    let w = fault-word f.at word f.fault in
    elim (gone f.walks) [
      | inl q ↦ (
        λ z. is-start word (w ∙ ap (λ (x : Mark). start_due x.state.due) q),
        λ z. f.number_is ∙ ap (λ (x : Mark). x.number) q,
      )
      | inr (l, d) ↦ (
        λ z. absurd (omega (arith, l, f.number_is, z)),
        λ z. absurd (omega (arith, ap start_word z, w, d)),
      )
    ]

-- a log that does not begin with a whole accepted start
begun : (log : List ℕ) → (Begins log → ⊥) → (v : Front) → front_of log ≡ v → FirstFault (first log) 0 StartWord
begun log h (Err Cut) e = record { at = first log; walks = stay; number_is = refl; fault = ends e (λ q. let z : ◌≡◌ {A = ℕ} 1 0 = ap start_due q.1 in absurd (omega arith)) }
begun log h (Err Bad) e = record { at = first log; walks = stay; number_is = refl; fault = stands (bad e) }
begun log h (Ok r) e =
    record { at = first log; walks = stay; number_is = refl; fault = stands (whole e (no_start refl (λ s. h (r, e, s)))) }

pub without-start : (log : List ℕ) → (Begins log → ⊥) → verdict_of log ≡ Fault 0 StartWord
without-start log h = (names-exactly log 0 StartWord).1 (begun log h (front_of log) refl)

module _ (log : List ℕ) (r : Record) (e : front_of log ≡ Ok r) (s : IsStart begins r.kind (body_of log r.size)) where
  no-fault : (m : Mark) (word : Word) → m ≡ first log → AtFault m word → ⊥
  no-fault m word q (stands (bad c)) = cc (e, ap (λ (x : Mark). front_of x.left) q, c)
  no-fault m word q (ends c h) = cc (e, ap (λ (x : Mark). front_of x.left) q, c)
  no-fault m word q (stands (whole {r = r'} c w)) =
      let u : r ≡ r' = cc (e, ap (λ (x : Mark). front_of x.left) q, c) in
      cc (right-next begins r.kind (body_of log r.size) (start refl s), rw (q, ← u) at (wrong-next m.state r'.kind (body_of m.left r'.size) w))

-- and one that does is not at fault there
pub with-start : (log : List ℕ) → Begins log → (word : Word) → verdict_of log ≡ Fault 0 word → ⊥
with-start log (r, e, s) word v =
    let f = (names-exactly log 0 word).0 v in
    elim (gone f.walks) [
      | inl q ↦ no-fault log r e s f.at word q f.fault
      | inr (l, d) ↦ omega (arith, l, f.number_is)
    ]

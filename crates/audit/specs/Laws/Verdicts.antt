-- The verdict: accepted exactly if every reply is the definition's, and otherwise the first fault, which is one; nothing after it matters.
use Rattle.std.specs.Prelude.{◌≡◌, refl, Bool, true, false, cond, ◌&&◌, List, [], ◌∷◌, ◌++◌, ◌⊎◌, ℕ, zero, suc, ◌+◌, ◌≤◌, ◌<◌, eqb, length, Ok, Err}
use Rattle.std.proofs.Common.{sym, ap, ◌∙◌, append-nil, inl, inr, arith, eqb-true, ne_eqb}
use Rattle.std.proofs.lemmas.Bool.{false≢true, eqb-false}
use Rattle.events.specs.declared.NoRecord.TheVariants.{Cut, Bad}
use Rattle.events.specs.declared.Record.{Record}
use Rattle.events.specs.Definition.Records.{Front, front_of, body_of, rest_of}
use Rattle.events.specs.Laws.Front.{front-none, shorter}
use Rattle.audit.specs.declared.Due.{Due}
use Rattle.audit.specs.declared.Due.TheVariants.{Start, Event, Reply as ReplyTo}
use Rattle.audit.specs.declared.Word.{Word}
use Rattle.audit.specs.Definition.Log.{Mark, mark, first, Walks, stay, pass, Accepted, lacking_of, Stands, bad, whole, AtFault, stands, ends, FirstFault}
use Rattle.audit.specs.Definition.Verdict.{Verdict, Accepted as Passed, Fault, Next, next, may_end, at_end, verdict_of, Means}
use Rattle.audit.specs.Laws.Records.{Says, says}
use Rattle.audit.specs.Laws.Turns.{verdict-cut, verdict_at, walked, faulted}

-- every log comes, by records that are right, to where less than a record is left or one is at fault
pub record Stopped (from : Mark) : Type 0 where
  pub at : Mark
  pub walks : Walks from at
  pub stop : (front_of at.left ≡ Err Cut) ⊎ ((word : Word) × Stands at word)

stopped_by : (m : Mark) → ((to : Mark) → length to.left < length m.left → Stopped to) → Stopped m
stopped_by m later = go (front_of m.left) refl
  where
    after : (r : Record) → front_of m.left ≡ Ok r → (v : Next) → Says m.state r.kind (body_of m.left r.size) v → Stopped m
    after r e (Ok s) right =
        let d = later (mark (m.number + 1) s (rest_of m.left r.size)) (shorter m.left r e) in
        record { at = d.at; walks = pass e right d.walks; stop = d.stop }
    after r e (Err word) w = record { at = m; walks = stay; stop = inr (word, whole e w) }

    go : (v : Front) → front_of m.left ≡ v → Stopped m
    go (Err Cut) e = record { at = m; walks = stay; stop = inl e }
    go (Err Bad) e = record { at = m; walks = stay; stop = inr (_, bad e) }
    go (Ok r) e = after r e (next m.state r.kind (body_of m.left r.size)) (says m.state r.kind (body_of m.left r.size))

stopped-in : (k : ℕ) (m : Mark) → length m.left ≤ k → Stopped m
stopped-in zero m h = record { at = m; walks = stay; stop = inl (sym (front-none m.left (omega arith))) }
stopped-in (suc k) m h = stopped_by m (λ to l. stopped-in k to (omega arith))

pub stopped : (m : Mark) → Stopped m
stopped m = stopped-in (length m.left) m (omega arith)

no_bytes : (xs : List ℕ) → length xs ≡ 0 → xs ≡ []
no_bytes [] e = refl
no_bytes (x ∷ xs) e = absurd (omega arith)

-- what is due where the log may end
is-event : (d : Due) → may_end d ≡ true → d ≡ Event
is-event Start e = absurd (false≢true e)
is-event Event e = refl
is-event (ReplyTo kind answer) e = absurd (false≢true e)

-- the verdict where the log ends
at-end : (log : List ℕ) (m : Mark) → Walks (first log) m → front_of m.left ≡ Err Cut → Means log (at_end m.number m.state.due (length m.left))
at-end log m w c = go _ _ refl refl
  where
    fault : ((m.left ≡ []) × (m.state.due ≡ Event) → ⊥) → FirstFault (first log) m.number (lacking_of m.state.due)
    fault h = record { at = m; walks = w; number_is = refl; fault = ends c h }

    go : (p q : Bool) → may_end m.state.due ≡ p → eqb (length m.left) 0 ≡ q → Means log (cond (p && q) Passed (Fault m.number (lacking_of m.state.due)))
    go false q e f = fault (λ h. false≢true (sym e ∙ ap may_end h.1))
    go true false e f = fault (λ h. eqb-false (length m.left) 0 f (ap length h.0))
    go true true e f = record { end = m; walks = w; over = no_bytes m.left (eqb-true _ 0 f); due = is-event m.state.due e }

verdict-first : (log : List ℕ) → verdict_of log ≡ verdict_at (first log) []
unfolding verdict_of
verdict-first log = rw (append-nil log)

verdict-left : (m : Mark) → front_of m.left ≡ Err Cut → verdict_at m [] ≡ at_end m.number m.state.due (length m.left)
verdict-left m c = rw (append-nil m.left) (verdict-cut m.number m.state m.left c)

-- the verdict says what is so
pub verdict-means : (log : List ℕ) → Means log (verdict_of log)
verdict-means log =
    let d = stopped (first log) in
    let e = verdict-first log ∙ walked d.walks [] in
    elim d.stop [
      | inl c ↦ rw (e ∙ verdict-left d.at c) (at-end log d.at d.walks c)
      | inr (word, w) ↦ rw (e ∙ faulted w []) (record { at = d.at; walks = d.walks; number_is = refl; fault = stands w })
    ]

accepted-end : (number : ℕ) (d : Due) (left : List ℕ) → left ≡ [] → d ≡ Event → at_end number d (length left) ≡ Passed
accepted-end number d left e f = rw (e, f)

fault-end : (number : ℕ) (d : Due) (left : List ℕ) → ((left ≡ []) × (d ≡ Event) → ⊥) → at_end number d (length left) ≡ Fault number (lacking_of d)
fault-end number Start left h = refl
fault-end number (ReplyTo kind answer) left h = refl
fault-end number Event left h = rw (ne_eqb (length left) 0 (λ e. h (no_bytes left e, refl)))

-- an accepted log is found so
accepted-verdict : (log : List ℕ) → Accepted log → verdict_of log ≡ Passed
accepted-verdict log p =
    let m = p.end in
    let c : front_of m.left ≡ Err Cut = rw p.over (sym (front-none [] (omega arith))) in
    verdict-first log ∙ walked p.walks [] ∙ verdict-left m c ∙ accepted-end m.number m.state.due m.left p.over p.due

fault-verdict : (m : Mark) (word : Word) → AtFault m word → verdict_at m [] ≡ Fault m.number word
fault-verdict m word (stands w) = faulted w []
fault-verdict m word (ends c h) = verdict-left m c ∙ fault-end m.number m.state.due m.left h

-- and the first fault
first-verdict : (log : List ℕ) (number : ℕ) (word : Word) → FirstFault (first log) number word → verdict_of log ≡ Fault number word
first-verdict log number word f = rw f.number_is (verdict-first log ∙ walked f.walks [] ∙ fault-verdict f.at word f.fault)

-- exactly one verdict says what is so, for any bytes
pub one-verdict : (log : List ℕ) (v : Verdict) → Means log v → v ≡ verdict_of log
one-verdict log (Ok accepted) p = sym (accepted-verdict log p)
one-verdict log (Err fault) f = sym (first-verdict log fault.number fault.word f)

-- "It accepts exactly the logs that begin with an accepted start and whose every reply is the definition's."
pub accepts-exactly : (log : List ℕ) → (verdict_of log ≡ Passed → Accepted log) × (Accepted log → verdict_of log ≡ Passed)
accepts-exactly log = (λ e. rw e at (verdict-means log), accepted-verdict log)

-- "Otherwise it names the first record at fault"
pub names-exactly : (log : List ℕ) (number : ℕ) (word : Word)
    → (verdict_of log ≡ Fault number word → FirstFault (first log) number word) × (FirstFault (first log) number word → verdict_of log ≡ Fault number word)
names-exactly log number word = (λ e. rw e at (verdict-means log), first-verdict log number word)

-- nothing after the first fault matters: once it stands in the log, whatever follows gives the same verdict
pub nothing-after : (log : List ℕ) (m : Mark) (word : Word) → Walks (first log) m → Stands m word → (ys : List ℕ) → verdict_of (log ++ ys) ≡ Fault m.number word
unfolding verdict_of
nothing-after log m word w s ys = walked w ys ∙ faulted s ys

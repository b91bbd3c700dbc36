-- The verdict record by record: it is that of the first record, or of what follows it.
use Rattle.std.specs.Prelude.{◌≡◌, refl, List, [], ◌∷◌, ◌++◌, ℕ, zero, suc, ◌+◌, ◌≤◌, length, Ok, Err}
use Rattle.std.proofs.Common.{sym, ◌∙◌, arith}
use Rattle.events.specs.declared.NoRecord.TheVariants.{Cut, Bad}
use Rattle.events.specs.declared.Record.{Record}
use Rattle.events.specs.Definition.Records.{Front, front_of, body_of, rest_of}
use Rattle.events.specs.Laws.Front.{front-none, shorter, bad-stays, record-stays, body-stays, rest-stays}
use Rattle.audit.specs.declared.Word.{Word}
use Rattle.audit.specs.Definition.Records.{State, Right}
use Rattle.audit.specs.Definition.Log.{Mark, lacking_of, Walks, stay, pass, Stands, bad, whole}
use Rattle.audit.specs.Definition.Verdict.{Verdict, Fault, Next, next, at_end, goes_on, turn, verdict_in, verdict_from}
use Rattle.audit.specs.Laws.Records.{right-next, wrong-next}

same-on : (f g : ℕ → State → List ℕ → Verdict) (number : ℕ) (s : State) (xs : List ℕ) (v : Front)
    → ((number' : ℕ) (s' : State) (r : Record) → v ≡ Ok r → f number' s' (rest_of xs r.size) ≡ g number' s' (rest_of xs r.size))
    → turn f number s xs v ≡ turn g number s xs v
unfolding turn
same-on f g number s xs (Err Cut) h = refl
same-on f g number s xs (Err Bad) h = refl
same-on f g number s xs (Ok r) h = after (next s r.kind (body_of xs r.size))
  where
    after : (v : Next) → goes_on f number (rest_of xs r.size) v ≡ goes_on g number (rest_of xs r.size) v
    after (Ok to) = h (number + 1) to r refl
    after (Err word) = refl

none : (f : ℕ → State → List ℕ → Verdict) (number : ℕ) (s : State) (xs : List ℕ) → length xs ≤ 0
    → at_end number s.due (length xs) ≡ turn f number s xs (front_of xs)
unfolding turn
none f number s xs h = rw (← front-none xs (omega arith))

-- more turns than bytes change nothing
enough : (k m : ℕ) (number : ℕ) (s : State) (xs : List ℕ) → length xs ≤ k → length xs ≤ m → verdict_in k number s xs ≡ verdict_in m number s xs
unfolding verdict_in
enough zero zero number s xs h g = refl
enough zero (suc m) number s xs h g = none (verdict_in m) number s xs h
enough (suc k) zero number s xs h g = sym (none (verdict_in k) number s xs g)
enough (suc k) (suc m) number s xs h g =
    same-on (verdict_in k) (verdict_in m) number s xs (front_of xs)
    (λ number' s' r e. enough k m number' s' (rest_of xs r.size) (omega (arith, shorter xs r e)) (omega (arith, shorter xs r e)))

-- the whole log is one turn on its front, and the verdict on the rest: no record is left out
verdict-turn : (number : ℕ) (s : State) (xs : List ℕ) → verdict_from number s xs ≡ turn verdict_from number s xs (front_of xs)
unfolding verdict_from verdict_in
verdict-turn number s [] = none verdict_from number s [] (omega arith)
verdict-turn number s (x ∷ xs) =
    same-on (verdict_in (length xs)) verdict_from number s (x ∷ xs) (front_of (x ∷ xs))
    (λ number' s' r e. let rest = rest_of (x ∷ xs) r.size in enough (length xs) (length rest) number' s' rest (omega (arith, shorter (x ∷ xs) r e)) (omega arith))

-- the input ends with less than a record
pub verdict-cut : (number : ℕ) (s : State) (xs : List ℕ) → front_of xs ≡ Err Cut → verdict_from number s xs ≡ at_end number s.due (length xs)
unfolding turn
verdict-cut number s xs e = verdict-turn number s xs ∙ rw e

verdict-bad : (number : ℕ) (s : State) (xs : List ℕ) → front_of xs ≡ Err Bad → verdict_from number s xs ≡ Fault number (lacking_of s.due)
unfolding turn
verdict-bad number s xs e = verdict-turn number s xs ∙ rw e

module _ (number : ℕ) (s : State) (xs : List ℕ) (r : Record) (e : front_of xs ≡ Ok r) where
  pub verdict-right : (to : State) → next s r.kind (body_of xs r.size) ≡ Ok to → verdict_from number s xs ≡ verdict_from (number + 1) to (rest_of xs r.size)
  unfolding turn
  verdict-right to q = verdict-turn number s xs ∙ rw (e, q)

  pub verdict-wrong : (word : Word) → next s r.kind (body_of xs r.size) ≡ Err word → verdict_from number s xs ≡ Fault number word
  unfolding turn
  verdict-wrong word q = verdict-turn number s xs ∙ rw (e, q)

-- the verdict on a log from a mark on, with what follows
abbrev pub verdict_at : Mark → (ys : List ℕ) → Verdict
verdict_at m ys = verdict_from m.number m.state (m.left ++ ys)

-- records that are right change no verdict, whatever follows
pub walked : {m to : Mark} → Walks m to → (ys : List ℕ) → verdict_at m ys ≡ verdict_at to ys
walked stay ys = refl
walked (pass {m} {to} {r} {s} e right w) ys =
    rw (rest-stays m.left ys r e) at
    (verdict-right m.number m.state (m.left ++ ys) r (record-stays m.left ys r e) s
    (rw (body-stays m.left ys r e) (right-next m.state r.kind (body_of m.left r.size) right)))
    ∙ walked w ys

-- nor does anything that follows a record at fault
pub faulted : {m : Mark} {word : Word} → Stands m word → (ys : List ℕ) → verdict_at m ys ≡ Fault m.number word
faulted {m} (bad e) ys = verdict-bad m.number m.state (m.left ++ ys) (bad-stays m.left ys e)
faulted {m} (whole {r} {word} e w) ys =
    verdict-wrong m.number m.state (m.left ++ ys) r (record-stays m.left ys r e) word
    (rw (body-stays m.left ys r e) (wrong-next m.state r.kind (body_of m.left r.size) w))

one_right : {s a b : State} {kind : ℕ} {body : List ℕ} → Right s kind body a → Right s kind body b → a ≡ b
one_right {s} {a} {b} {kind} {body} p q = let e : ◌≡◌ {A = Next} (Ok a) (Ok b) = sym (right-next s kind body p) ∙ right-next s kind body q in cc

-- records that are right lead to one mark where less than a record is left
pub one_way : {m a b : Mark} → Walks m a → front_of a.left ≡ Err Cut → Walks m b → front_of b.left ≡ Err Cut → a ≡ b
one_way stay e stay f = refl
one_way stay e (pass g r w) f = absurd (cc (e, g))
one_way (pass g r w) e stay f = absurd (cc (f, g))
one_way (pass {m = m} {r = i} {s = a} g r v) e (pass {r = j} {s = b} h q w) f =
    let x : i ≡ j = cc in
    let z : a ≡ b = one_right r (rw (← x) at q) in
    one_way v e (rw (← x, ← z) at w) f

-- The records of a buffer, one at a time.
use Rattle.std.specs.Prelude.{◌≡◌, refl, List, [], ◌∷◌, ℕ, zero, suc, ◌≤◌, length, Ok, Err}
use Rattle.std.proofs.Common.{ap, ◌∙◌, arith}
use Rattle.events.specs.declared.NoRecord.{NoRecord}
use Rattle.events.specs.declared.Record.{Record}
use Rattle.events.specs.Definition.Records.{Front, front_of, body_of, rest_of}
use Rattle.events.specs.Laws.Front.{front-none, shorter}
use Rattle.replay.specs.Definition.Replay.{EventRecord, records_to, records_in, records}

same-on : (f g : List ℕ → List EventRecord) (xs : List ℕ) (v : Front) → ((r : Record) → v ≡ Ok r → f (rest_of xs r.size) ≡ g (rest_of xs r.size))
    → records_to f xs v ≡ records_to g xs v
unfolding records_to
same-on f g xs (Err why) h = refl
same-on f g xs (Ok r) h = ap (λ (rs : List EventRecord). record { kind = r.kind; body = body_of xs r.size } ∷ rs) (h r refl)

-- more turns than bytes change nothing
enough : (k m : ℕ) (xs : List ℕ) → length xs ≤ k → length xs ≤ m → records_in k xs ≡ records_in m xs
unfolding records_in records_to
enough zero zero xs h g = refl
enough zero (suc m) xs h g = rw (← front-none xs (omega arith))
enough (suc k) zero xs h g = rw (← front-none xs (omega arith))
enough (suc k) (suc m) xs h g =
    same-on (records_in k) (records_in m) xs (front_of xs) (λ r e. enough k m (rest_of xs r.size) (omega (arith, shorter xs r e)) (omega (arith, shorter xs r e)))

-- the record at the front and the records of the rest: none is left out
pub records-turn : (xs : List ℕ) → records xs ≡ records_to records xs (front_of xs)
unfolding records records_in records_to
records-turn [] = rw (← front-none [] (omega arith))
records-turn (x ∷ xs) =
    same-on (records_in (length xs)) records (x ∷ xs) (front_of (x ∷ xs))
    (λ r e. let rest = rest_of (x ∷ xs) r.size in enough (length xs) (length rest) rest (omega (arith, shorter (x ∷ xs) r e)) (omega arith))

pub records-end : (xs : List ℕ) (why : NoRecord) → front_of xs ≡ Err why → records xs ≡ []
unfolding records_to
records-end xs why e = records-turn xs ∙ rw e

pub records-more : (xs : List ℕ) (r : Record) → front_of xs ≡ Ok r → records xs ≡ record { kind = r.kind; body = body_of xs r.size } ∷ records (rest_of xs r.size)
unfolding records_to
records-more xs r e = records-turn xs ∙ rw e

-- The listing record by record: its text is the first record's line and then the text of what follows.
use Rattle.std.specs.Prelude.{◌≡◌, refl, List, [], ◌∷◌, ◌++◌, ℕ, zero, suc, ◌≤◌, length, drop, Ok, Err}
use Rattle.std.proofs.Common.{sym, ap, ◌∙◌, append-nil, arith, eq-eqb, take_all}
use Rattle.kernel.specs.Definition.Step.{Result, decided, completed, step}
use Rattle.kernel.specs.declared.Tables.{Tables}
use Rattle.events.specs.declared.NoRecord.TheVariants.{Cut, Bad}
use Rattle.events.specs.declared.Record.{Record}
use Rattle.events.specs.Definition.Records.{Front, front_of, body_of, rest_of, call_in}
use Rattle.events.specs.Laws.Front.{front-none, shorter}
use Rattle.listing.specs.Definition.Log.{log_step, line_after, lent_to, ending, turn, text_in, text_from, bad_text}

same-on : (f g : Tables → List ℕ → List ℕ → List ℕ → List ℕ) (t : Tables) (ram out xs : List ℕ) (v : Front)
    → ((t' : Tables) (ram' out' : List ℕ) (r : Record) → v ≡ Ok r → f t' ram' out' (rest_of xs r.size) ≡ g t' ram' out' (rest_of xs r.size))
    → turn f t ram out xs v ≡ turn g t ram out xs v
unfolding turn
same-on f g t ram out xs (Err Cut) h = refl
same-on f g t ram out xs (Err Bad) h = refl
same-on f g t ram out xs (Ok f') h =
    let r = log_step t ram out f'.kind (body_of xs f'.size) in
    ap (λ (l : List ℕ). line_after f'.kind r ++ l) (h r.tables r.ram r.output f' refl)

-- no byte, no text
none : (f : Tables → List ℕ → List ℕ → List ℕ → List ℕ) (t : Tables) (ram out xs : List ℕ) → length xs ≤ 0 → [] ≡ turn f t ram out xs (front_of xs)
unfolding turn
none f t ram out xs h = rw (← front-none xs (omega arith), eq-eqb (length xs) 0 (omega arith))

-- more turns than bytes change nothing
enough : (k m : ℕ) (t : Tables) (ram out xs : List ℕ) → length xs ≤ k → length xs ≤ m → text_in k t ram out xs ≡ text_in m t ram out xs
unfolding text_in
enough zero zero t ram out xs h g = refl
enough zero (suc m) t ram out xs h g = none (text_in m) t ram out xs h
enough (suc k) zero t ram out xs h g = sym (none (text_in k) t ram out xs g)
enough (suc k) (suc m) t ram out xs h g =
    same-on (text_in k) (text_in m) t ram out xs (front_of xs)
    (λ t' ram' out' f e. enough k m t' ram' out' (rest_of xs f.size) (omega (arith, shorter xs f e)) (omega (arith, shorter xs f e)))

-- the whole log is one turn on its front, and the text of the rest: no record is left out
pub text-turn : (t : Tables) (ram out xs : List ℕ) → text_from t ram out xs ≡ turn text_from t ram out xs (front_of xs)
unfolding text_from text_in
text-turn t ram out [] = none text_from t ram out [] (omega arith)
text-turn t ram out (x ∷ xs) =
    same-on (text_in (length xs)) text_from t ram out (x ∷ xs) (front_of (x ∷ xs))
    (λ t' ram' out' f e. let rest = rest_of (x ∷ xs) f.size in enough (length xs) (length rest) t' ram' out' rest (omega (arith, shorter (x ∷ xs) f e)) (omega arith))

pub text-record : (t : Tables) (ram out xs : List ℕ) (f : Record) → front_of xs ≡ Ok f
    → let r = log_step t ram out f.kind (body_of xs f.size) in text_from t ram out xs ≡ line_after f.kind r ++ text_from r.tables r.ram r.output (rest_of xs f.size)
unfolding turn
text-record t ram out xs f e = text-turn t ram out xs ∙ rw e

pub text-bad : (t : Tables) (ram out xs : List ℕ) → front_of xs ≡ Err Bad → text_from t ram out xs ≡ bad_text
unfolding turn
text-bad t ram out xs e = text-turn t ram out xs ∙ rw e

-- the input ends with less than a record
pub text-cut : (t : Tables) (ram out xs : List ℕ) → front_of xs ≡ Err Cut → text_from t ram out xs ≡ ending (length xs)
unfolding turn
text-cut t ram out xs e = text-turn t ram out xs ∙ rw e

pub text-finished : (t : Tables) (ram out : List ℕ) → text_from t ram out [] ≡ []
unfolding text_from text_in
text-finished t ram out = refl

-- a call that is lent all four segments: what it leaves, by their length alone
pub log-full : (t : Tables) (ram out : List ℕ) (kind : ℕ) (body : List ℕ) → lent_to t.segments kind (length body) ≡ 65536 → length ram ≡ 65536
    → log_step t ram out kind body ≡ completed t (decided t 65536 (length out) (call_in kind body)) ram out
unfolding log_step step
log-full t ram out kind body e h =
    rw (e, take_all 65536 ram (omega arith), h, nothing 65536 ram (omega arith), append-nil)
  where
    nothing : (n : ℕ) (xs : List ℕ) → length xs ≤ n → drop n xs ≡ []
    nothing zero [] h = refl
    nothing zero (x ∷ xs) h = absurd (omega arith)
    nothing (suc n) [] h = refl
    nothing (suc n) (x ∷ xs) h = nothing n xs (omega arith)

-- how much was moved "the listing doesn't print"
pub moved-not-printed : (kind : ℕ) (r : Result) (moved : ℕ)
    → line_after kind (record { answer = r.answer; tables = r.tables; ram = r.ram; output = r.output; moved = moved }) ≡ line_after kind r
moved-not-printed kind r moved = refl

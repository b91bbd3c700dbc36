-- "Several at once: the lowest number wins.": of refusals in the order of their numbers, the first that holds is the lowest row that holds.
use Rattle.std.specs.Prelude.{◌≡◌, refl, Bool, true, false, not, cond, ◌&&◌, ◌||◌, List, [], ◌∷◌, ◌⊎◌, ℕ, suc, ◌≤◌, ◌<◌, leb, ltb}
use Rattle.std.proofs.lemmas.Bool.{false≢true, not-true}
use Rattle.std.proofs.Common.{inl, inr, arith, ltb-true}
use Rattle.std.proofs.Math.Decide.{dec_lt}
use Rattle.rows.specs.Laws.Lists.{and_left, and_right}
use Rattle.rows.specs.Laws.Says.{Says, says-le, says-lt, says-or}
use Rattle.kernel.specs.Definition.Bytes.{nothing}
use Rattle.kernel.specs.Definition.Answers.{number_of, granted, gives, Decision, ◌changing◌, Refusal, ◌when◌, unless}
use Rattle.kernel.specs.declared.Tables.{Tables}
use Rattle.kernel.specs.declared.Answer.{Answer}
use Rattle.history.specs.Definition.ExactlyOne.{IsAnswer, refused, passed, refusal}

-- k is one of the numbers
abbrev pub Among : ℕ → List ℕ → Type 0
Among k [] = ⊥
Among k (n ∷ ns) = (k ≡ n) ⊎ Among k ns

-- none of the numbers is from `from` on and below `to`; none is from `from` on
abbrev pub clear : (from to : ℕ) → List ℕ → Bool
clear from to [] = true
clear from to (n ∷ ns) = (ltb n from || leb to n) && clear from to ns

abbrev pub over : (from : ℕ) → List ℕ → Bool
over from [] = true
over from (n ∷ ns) = ltb n from && over from ns

pub clear_none : (from to : ℕ) (ns : List ℕ) → clear from to ns ≡ true → (j : ℕ) → from ≤ j → j < to → ¬ Among j ns
clear_none from to [] e j a b h = h
clear_none from to (n ∷ ns) e j a b (inl q) =
    elim ((says-or (says-lt n from) (says-le to n)).yes (and_left _ (clear from to ns) e)) [ inl x ↦ omega arith | inr x ↦ omega arith ]
clear_none from to (n ∷ ns) e j a b (inr h) = clear_none from to ns (and_right (ltb n from || leb to n) _ e) j a b h

over_none : (from : ℕ) (ns : List ℕ) → over from ns ≡ true → (j : ℕ) → from ≤ j → ¬ Among j ns
over_none from [] e j a h = h
over_none from (n ∷ ns) e j a (inl q) = omega (arith, ltb-true n from (and_left _ (over from ns) e))
over_none from (n ∷ ns) e j a (inr h) = over_none from ns (and_right (ltb n from) _ e) j a h

-- no row below n holds
abbrev pub Below : (ℕ → Type 0) → ℕ → Type 0
Below C n = (j : ℕ) → j < n → ¬ C j

-- the answer that is decided is the lowest row that holds
pub record Lowest (C : ℕ → Type 0) (d : Decision) : Type 0 where
  pub answer : IsAnswer C (refusal d.answer)

-- a refusal whose number is the next of the numbers, from `from` on
abbrev pub next : (from : ℕ) → List ℕ → Answer → Bool
next from ns answer = not (granted answer) && clear from (number_of answer) ns

-- The refusals stand in the order of their numbers, leave out none of the numbers ns, and each says its row where no lower one holds
pub data Rising (C : ℕ → Type 0) (ns : List ℕ) : (from : ℕ) → List Refusal → (to : ℕ) → Type 0 where
  end : {from : ℕ} → Rising C ns from [] from
  rule : {from to : ℕ} {holds : Bool} {more : List Refusal} (answer : Answer) → next from ns answer ≡ true
      → (Below C (number_of answer) → Says holds (C (number_of answer))) → Rising C ns (suc (number_of answer)) more to
      → Rising C ns from (answer when holds ∷ more) to

-- rows of the numbers ns alone can hold
module _ (C : ℕ → Type 0) (ns : List ℕ) (rows : (k : ℕ) → C k → Among k ns) where
  below_next : (from : ℕ) (answer : Answer) → next from ns answer ≡ true → Below C from → Below C (number_of answer)
  below_next from answer e low j h c =
      elim (dec_lt j from) [
        | yes q ↦ low j q c
        | no q ↦ clear_none from (number_of answer) ns (and_right (not (granted answer)) _ e) j (omega arith) h (rows j c)
      ]

  below_suc : (n : ℕ) → Below C n → ¬ C n → Below C (suc n)
  below_suc n low c j h d = elim (dec_lt j n) [ yes q ↦ low j q d | no q ↦ let e : j ≡ n = omega arith in c (rw e at d) ]

  first : (t : Tables) (answer : Answer) (else : Decision) (holds : Bool) → granted answer ≡ false → Below C (number_of answer)
      → Says holds (C (number_of answer)) → (Below C (suc (number_of answer)) → Lowest C else) → Lowest C (cond holds (gives answer t changing nothing) else)
  first t answer else true g low says rest = record { answer = rw g (refused (says.yes refl) low) }
  first t answer else false g low says rest = rest (below_suc (number_of answer) low (λ c. false≢true (says.make c)))

  -- the first that holds is the lowest that holds
  pub unless-lowest : {from to : ℕ} {rs : List Refusal} (t : Tables) (done : Decision) → Rising C ns from rs to
      → (Below C to → Lowest C done) → Below C from → Lowest C (unless rs t done)
  unless-lowest t done end rest low = rest low
  unless-lowest {from} t done (rule {holds = holds} {more = others} answer e says more) rest low =
      let here = below_next from answer e low in
      first t answer (unless others t done) holds (not-true (granted answer) (and_left _ (clear from (number_of answer) ns) e)) here (says here)
      (λ past. unless-lowest t done more rest past)

  -- where none of the numbers is left, no row holds
  pub none-holds : {from : ℕ} (d : Decision) → granted d.answer ≡ true → over from ns ≡ true → Below C from → Lowest C d
  none-holds {from} d g e low =
      record { answer = rw g (passed (λ j c. elim (dec_lt j from) [ yes q ↦ low j q c | no q ↦ over_none from ns e j (omega arith) (rows j c) ])) }

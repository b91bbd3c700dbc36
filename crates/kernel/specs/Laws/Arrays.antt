-- Laws on arrays alone: a padded list's length, and a word of letters as a name of good tables.
use Rattle.std.specs.Prelude.{◌≡◌, List, [], ◌∷◌, ◌++◌, map, ℕ, ◌+◌, ◌-◌, ◌≤◌, ◌<◌, replicate}
use Rattle.std.proofs.Common.{ap, ◌∙◌, inl, ⊎_elim, arith, length-append, take_all, get_or-append-add}
use Rattle.std.proofs.Math.ListN.{length, length-map, get_or-append, get_or-map}
use Rattle.std.proofs.lemmas.List.{length-replicate}
use Rattle.rows.specs.Definition.Lists.{at, padded}
use Rattle.rows.specs.Laws.ClassRows.{zeros-at}
use Rattle.rows.specs.Definition.Good.{NameGood}
use Rattle.names.specs.Definition.Grammar.{All, Capital, Letter}
use Rattle.names.specs.Definition.Words.{upper, upper_all, word_of, LinkName, DefaultName}
use Rattle.names.specs.Laws.Laid.{upper-below, upper-small}
use Rattle.names.specs.Laws.Numbers.{all-at}

pub length-padded : (n : ℕ) (xs : List ℕ) → length xs ≤ n → length (padded n xs) ≡ n
length-padded n xs h = omega (arith, length-append xs (replicate {A = ℕ} (n - length xs) 0), length-replicate {A = ℕ} (n - length xs) 0)

-- capitals are letters
pub capital-letters : (s : List ℕ) → All Capital s → All Letter s
capital-letters [] a = tt
capital-letters (b ∷ bs) a = (inl a.0, capital-letters bs a.1)

pub link-default : (s : List ℕ) → LinkName s → DefaultName s
link-default s h = (h.0, h.1, capital-letters s h.2)

-- a letter upper-cased is a capital
upper-capital : (b : ℕ) → Letter b → Capital (upper b)
upper-capital b h =
    ⊎_elim (λ c. rw (upper-below b (omega (arith, c.1))) c)
    (λ c. let e = upper-small b c.0 c.1 in (omega (arith, e, c.0), omega (arith, e, c.1))) h

module _ (s : List ℕ) (h : DefaultName s) where
  word-is : word_of s ≡ map upper s ++ replicate (28 - length s) 0
  unfolding word_of upper_all
  word-is = rw (take_all 28 s h.1)

  word_at : (i : ℕ) → i < length s → at (word_of s) i ≡ upper (at s i)
  unfolding upper
  word_at i a =
      rw word-is (get_or-append (map upper s) (replicate (28 - length s) 0) 0 i (omega (arith, length-map s upper)) ∙ get_or-map upper s i 0)

  word-rest : (i : ℕ) → length s ≤ i → at (word_of s) i ≡ 0
  word-rest i a =
      let e : i ≡ length (map upper s) + (i - length s) = omega (arith, length-map s upper) in
      rw word-is (ap (λ (k : ℕ). at (map upper s ++ replicate (28 - length s) 0) k) e
      ∙ get_or-append-add (map upper s) (replicate (28 - length s) 0) (i - length s) 0 ∙ zeros-at (28 - length s) (i - length s))

  -- "default upper-cases what it keeps": the word of a name is 1 to 28 capitals
  pub word_good : NameGood (word_of s) (length s)
  word_good =
      let letter : (i : ℕ) → i < length s → Capital (upper (at s i)) = λ i a. upper-capital (at s i) (all-at Letter s i h.2 a) in
      record {
        most = h.1;
        low = λ i a. rw (word_at i a) (letter i a).0;
        high = λ i a. rw (word_at i a) (letter i a).1;
        rest = λ i a b. word-rest i a;
      }

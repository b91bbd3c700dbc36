-- Bytes put at a place: those there are new, those before and behind stay.
use Rattle.std.specs.Prelude.{◌≡◌, cond, ◌&&◌, List, ◌++◌, ℕ, ◌+◌, ◌-◌, ◌≤◌, ◌<◌, leb, ltb, length, get_or, take, drop}
use Rattle.std.proofs.Common.{sym, ◌∙◌, arith, le-leb, lt-ltb, le-ltb, length-take, get_or-take, get_or-drop, get_or-append-add}
use Rattle.std.proofs.Math.Decide.{dec_le, dec_lt}
use Rattle.std.proofs.lemmas.Bool.{lt-leb}
use Rattle.std.proofs.Math.ListN.{get_or-append}
use Rattle.line.specs.Definition.Ram.{put_at}

-- byte k where `bytes` were put from offset on, and which was `old`
unfoldable pub patched : (offset : ℕ) (bytes : List ℕ) (k old : ℕ) → ℕ
patched offset bytes k old = cond (leb offset k && ltb k (offset + length bytes)) (get_or bytes (k - offset) 0) old

pub patched_in : (offset : ℕ) (bytes : List ℕ) (k old : ℕ) → offset ≤ k → k < offset + length bytes → patched offset bytes k old ≡ get_or bytes (k - offset) 0
unfolding patched
patched_in offset bytes k old h l = rw (le-leb _ _ h, lt-ltb _ _ l)

pub patched-not : (offset : ℕ) (bytes : List ℕ) (k old : ℕ) → (offset ≤ k → k < offset + length bytes → ⊥) → patched offset bytes k old ≡ old
unfolding patched
patched-not offset bytes k old f =
    elim (dec_le offset k) [
      | yes l ↦ elim (dec_lt k (offset + length bytes)) [ yes q ↦ absurd (f l q) | no q ↦ rw (le-leb offset k l, le-ltb k (offset + length bytes) (omega arith)) ]
      | no l ↦ rw (lt-leb offset k (omega arith))
    ]

-- what is the byte put there, and the old one elsewhere
pub patched-by : (offset : ℕ) (bytes : List ℕ) (k old x : ℕ) → (offset ≤ k → k < offset + length bytes → x ≡ get_or bytes (k - offset) 0)
    → ((offset ≤ k → k < offset + length bytes → ⊥) → x ≡ old) → x ≡ patched offset bytes k old
patched-by offset bytes k old x new same =
    elim (dec_le offset k) [
      | yes l ↦ elim (dec_lt k (offset + length bytes)) [
        | yes q ↦ new l q ∙ sym (patched_in offset bytes k old l q)
        | no q ↦ same (λ _ b. q b) ∙ sym (patched-not offset bytes k old (λ _ b. q b))
      ]
      | no l ↦ same (λ a _. l a) ∙ sym (patched-not offset bytes k old (λ a _. l a))
    ]

pub put-at-is : (ram : List ℕ) (here : ℕ) (xs : List ℕ) (i : ℕ) → here + length xs ≤ length ram → get_or (put_at ram here xs) i 0 ≡ patched here xs i (get_or ram i 0)
unfolding put_at
put-at-is ram here xs i fits =
    let rest = drop (here + length xs) ram in
    let n : length (take here ram) ≡ here = omega (arith, length-take here ram) in
    elim (dec_lt i here) [
      | yes l ↦ get_or-append (take here ram) (xs ++ rest) 0 i (omega arith) ∙ get_or-take here ram i 0 l ∙ sym (patched-not here xs i (get_or ram i 0) (λ a b. omega arith))
      | no l ↦
          let e : length (take here ram) + (i - here) ≡ i = omega arith in
          let past : get_or (take here ram ++ (xs ++ rest)) i 0 ≡ get_or (xs ++ rest) (i - here) 0 = rw e at (get_or-append-add (take here ram) (xs ++ rest) (i - here) 0) in
          elim (dec_lt i (here + length xs)) [
            | yes q ↦ past ∙ get_or-append xs rest 0 (i - here) (omega arith) ∙ sym (patched_in here xs i (get_or ram i 0) (omega arith) q)
            | no q ↦
                let f : length xs + (i - here - length xs) ≡ i - here = omega arith in
                let z : here + length xs + (i - here - length xs) ≡ i = omega arith in
                past ∙ rw f at (get_or-append-add xs rest (i - here - length xs) 0)
                ∙ rw z at (get_or-drop (here + length xs) ram (i - here - length xs) 0)
                ∙ sym (patched-not here xs i (get_or ram i 0) (λ a b. omega arith))
          ]
    ]

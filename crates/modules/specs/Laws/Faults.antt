-- What a stream is judged to be is what the definition of faults says in propositions: `judged` is refused exactly as `Refused` says.
use Rattle.std.specs.Prelude.{◌≡◌, ℕ, zero, suc, pred, ◌%◌, ◌<◌, ◌≤◌, Bool, true, false, cond, List, [], ◌∷◌, ◌++◌, length, take, slice_index_or, Result, Ok, Err}
use Rattle.std.proofs.Math.Path.{refl}
use Rattle.std.proofs.Common.{sym, subst, ◌∙◌, not-suc-le-zero, le_of_suc-le-suc, le_refl, arith}
use Rattle.std.proofs.lemmas.Bool.{false≢true}
use Rattle.rows.specs.Laws.Says.{Says, says-no}
use Rattle.modules.specs.Definition.Bits.{Bit, O, I}
use Rattle.modules.specs.Definition.Items.{end_bits, illegal_bits}
use Rattle.modules.specs.Definition.Reading.{First, end, Taken, taken_by, first, taken_in, looked_at, stream_bits}
use Rattle.modules.specs.Definition.Counter.{after}
use Rattle.modules.specs.Definition.Judging.{fault_or, judged_or, zeros, judged_at, judged}
use Rattle.modules.specs.Definition.Faults.{RunsOut, Outside, Above, Touches, Faultless, Begins, Refused}
use Rattle.modules.specs.Laws.Items.{first-item, first-end, first-illegal, item-stands, end-stands, illegal-stands, short-runs-out, runs-out-short, taken_step, begins-less}
use Rattle.modules.specs.Laws.Tests.{says-fails, outside-says, above-says, touches-says}
use Rattle.modules.specs.declared.Item.{Item}
use Rattle.modules.specs.declared.Counter.{Counter}
use Rattle.modules.specs.declared.Target.{Target}
use Rattle.modules.specs.declared.Refusal.{Refusal}
use Rattle.modules.specs.declared.Refusal.TheVariants.{Module, Page, Range, Guard}

-- ---- bad padding

one-stands : (n : ℕ) (bits : List Bit) (k : ℕ) → k < n → slice_index_or bits k O ≡ I → zeros (take n bits) ≡ false
one-stands zero bits k h e = absurd (not-suc-le-zero h)
one-stands (suc n) [] k h e = cc
one-stands (suc n) (O ∷ bits) zero h e = cc
one-stands (suc n) (O ∷ bits) (suc k) h e = one-stands n bits k (le_of_suc-le-suc h) e
one-stands (suc n) (I ∷ bits) k h e = refl

one_found : (n : ℕ) (bits : List Bit) → zeros (take n bits) ≡ false → (k : ℕ) × (k < n) × (slice_index_or bits k O ≡ I)
one_found zero bits e = absurd (false≢true (sym e))
one_found (suc n) [] e = absurd (false≢true (sym e))
one_found (suc n) (O ∷ bits) e = let (k, h, q) = one_found n bits e in (suc k, omega arith, q)
one_found (suc n) (I ∷ bits) e = (0, omega arith, refl)

-- ---- one item

module _ (g : Target) (c : Counter) (i : Item) (else : Result ℕ Refusal) where
  page-at : Outside c i → fault_or g c i else ≡ Err Page
  page-at o = rw ((outside-says c i).make o)

  range_at : ¬ Outside c i → Above g c i → fault_or g c i else ≡ Err Range
  range_at o a = rw (says-no (outside-says c i) o, (above-says g c i).make a)

  guard-at : ¬ Outside c i → ¬ Above g c i → Touches g c i → fault_or g c i else ≡ Err Guard
  guard-at o a t = rw (says-no (outside-says c i) o, says-no (above-says g c i) a, (touches-says g c i).make t)

  pub none-at : Faultless g c i → fault_or g c i else ≡ else
  none-at l =
      rw (says-no (outside-says c i) l.inside, says-no (above-says g c i) l.below, says-no (touches-says g c i) l.clear)

-- ---- all items; `m` is the bytes looked at

module _ (g : Target) (m : ℕ) where
  abbrev judged_of : Counter → Taken → Result ℕ Refusal
  judged_of c taken = judged_or g c taken.items (judged_at m taken.break)

  module _ (n : ℕ) (c : Counter) (bits : List Bit) (steps : length bits ≤ n) where
    at_item : (i : Item) (rest : List Bit) → Begins bits i rest
        → judged_of c (taken_in n bits) ≡ fault_or g c i (judged_of (after g.page c i) (taken_in (pred n) rest))
    unfolding judged_or
    at_item i rest b = rw (taken_step n bits steps, b.are, first-item i rest b.fits)

    at-end : (rest : List Bit) → bits ≡ end_bits ++ rest → judged_of c (taken_in n bits) ≡ judged_at m (end rest)
    unfolding judged_or
    at-end rest e = rw (taken_step n bits steps, e, first-end rest)

    at-illegal : (rest : List Bit) → bits ≡ illegal_bits ++ rest → judged_of c (taken_in n bits) ≡ Err Module
    unfolding judged_or
    at-illegal rest e = rw (taken_step n bits steps, e, first-illegal rest)

    at-short : RunsOut bits → judged_of c (taken_in n bits) ≡ Err Module
    unfolding judged_or
    at-short r = rw (taken_step n bits steps, runs-out-short bits r)

  refused-in : {c : Counter} {bits : List Bit} {f : Refusal} (n : ℕ) → length bits ≤ n → Refused g c bits f → judged_of c (taken_in n bits) ≡ Err f
  refused-in {c} {bits} n l (Refused.illegal rest e) = at-illegal n c bits l rest e
  refused-in {c} {bits} n l (Refused.runs-out r) = at-short n c bits l r
  refused-in {c} {bits} n l (Refused.padding rest e (k, p, q)) = at-end n c bits l rest e ∙ rw (one-stands (length rest % 8) rest k p q)
  refused-in {c} {bits} n l (Refused.page {i = i} {rest = rest} b o) = at_item n c bits l i rest b ∙ page-at g c i _ o
  refused-in {c} {bits} n l (Refused.range {i = i} {rest = rest} b o a) = at_item n c bits l i rest b ∙ range_at g c i _ o a
  refused-in {c} {bits} n l (Refused.guard {i = i} {rest = rest} b o a t) = at_item n c bits l i rest b ∙ guard-at g c i _ o a t
  refused-in {c} {bits} n l (Refused.behind {i = i} {rest = rest} b s r) =
      at_item n c bits l i rest b ∙ none-at g c i _ s
      ∙ refused-in (pred n) (begins-less n b l) r

  same-refused : {c : Counter} {bits : List Bit} {j f : Refusal} → ◌≡◌ {A = Result ℕ Refusal} (Err j) (Err f) → Refused g c bits j → Refused g c bits f
  same-refused {c} {bits} e r = subst (Refused g c bits) (cc) r

  -- the fault of the item that stands first, or what is behind it
  fault-refused : {c : Counter} {bits : List Bit} {i : Item} {rest : List Bit} {f : Refusal} (o a t : Bool) → Says o (Outside c i) → Says a (Above g c i)
      → Says t (Touches g c i) → Begins bits i rest → (else : Result ℕ Refusal)
      → (Faultless g c i → else ≡ Err f → Refused g (after g.page c i) rest f)
      → cond o (Err Page) (cond a (Err Range) (cond t (Err Guard) else)) ≡ Err f → Refused g c bits f
  fault-refused true a t p q r b else more e = same-refused e (Refused.page b (p.yes refl))
  fault-refused false true t p q r b else more e = same-refused e (Refused.range b (says-fails p refl) (q.yes refl))
  fault-refused false false true p q r b else more e = same-refused e (Refused.guard b (says-fails p refl) (says-fails q refl) (r.yes refl))
  fault-refused false false false p q r b else more e =
      let l : Faultless g _ _ = record { inside = says-fails p refl; below = says-fails q refl; clear = says-fails r refl } in
      Refused.behind b l (more l e)

  padding-refused : {c : Counter} {bits : List Bit} {f : Refusal} (rest : List Bit) (z : Bool) → bits ≡ end_bits ++ rest → zeros (take (length rest % 8) rest) ≡ z → (b : ℕ)
      → cond z (Ok b) (Err Module) ≡ Err f → Refused g c bits f
  padding-refused rest true w q b e = absurd (cc)
  padding-refused rest false w q b e = same-refused e (Refused.padding rest w (one_found (length rest % 8) rest q))

  -- what stands first is at fault, or what is behind it
  first-refused : (c : Counter) (bits : List Bit) {j : Refusal} (f : First) (more : List Bit → Taken) → first bits ≡ f
      → ((i : Item) (rest : List Bit) → Begins bits i rest → Faultless g c i → judged_of (after g.page c i) (more rest) ≡ Err j
      → Refused g (after g.page c i) rest j)
      → judged_of c (taken_by f more) ≡ Err j → Refused g c bits j
  unfolding judged_or
  first-refused c bits (First.item i rest) more w behind e =
      let b = item-stands bits i rest w in
      fault-refused _ _ _ (outside-says c i) (above-says g c i) (touches-says g c i) b _ (behind i rest b) e
  first-refused c bits (First.ends rest) more w behind e = padding-refused rest _ (end-stands bits rest w) refl _ e
  first-refused c bits First.illegal more w behind e = let (rest, q) = illegal-stands bits w in same-refused e (Refused.illegal rest q)
  first-refused c bits First.runs-out more w behind e = same-refused e (Refused.runs-out (short-runs-out bits w))

  in-refused : (n : ℕ) (c : Counter) (bits : List Bit) {f : Refusal} → length bits ≤ n → judged_of c (taken_in n bits) ≡ Err f → Refused g c bits f
  unfolding taken_in judged_or
  in-refused zero c [] l e = same-refused e (Refused.runs-out (short-runs-out [] refl))
  in-refused zero c (b ∷ bits) l e = absurd (not-suc-le-zero l)
  in-refused (suc n) c bits l e =
      first-refused c bits (first bits) (λ rest. taken_in n rest) refl
      (λ i rest b s. in-refused n (after g.page c i) rest (begins-less (suc n) b l)) e

-- what is refused in propositions is what `judged` gives
pub refused-judged : (g : Target) (c : Counter) (stream : List ℕ) (f : Refusal) → Refused g c (stream_bits stream) f → judged g c stream ≡ Err f
unfolding judged
refused-judged g c stream f r = refused-in g (length (looked_at stream)) (length (stream_bits stream)) (le_refl _) r

-- and what `judged` refuses a stream for, that it is refused for in propositions
pub judged-refused : (g : Target) (c : Counter) (stream : List ℕ) (f : Refusal) → judged g c stream ≡ Err f → Refused g c (stream_bits stream) f
unfolding judged
judged-refused g c stream f e = in-refused g (length (looked_at stream)) (length (stream_bits stream)) c (stream_bits stream) (le_refl _) e

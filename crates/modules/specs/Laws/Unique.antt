-- A stream has one reading, and what the loader accepts is exactly a module without fault.
use Rattle.std.specs.Prelude.{◌≡◌, ℕ, zero, suc, pred, ◌+◌, ◌-◌, ◌*◌, ◌/◌, ◌%◌, ◌<◌, ◌≤◌, Bool, true, false, cond, List, [], ◌∷◌, ◌++◌, length, take, drop, replicate, refl, Result, Ok, Err}
use Rattle.std.proofs.Common.{sym, ap, ◌∙◌, append_assoc, not-suc-le-zero, le_of_suc-le-suc, le_refl, arith, length-append, length-drop, take-append-drop, length-take-le, take_at}
use Rattle.std.proofs.lemmas.Bool.{false≢true}
use Rattle.std.proofs.lemmas.List.{length-replicate}
use Rattle.std.proofs.Math.Seq.{take-append-add}
use Rattle.modules.specs.Definition.Bits.{Bit, O, I, bits_in}
use Rattle.modules.specs.Definition.Items.{item_bits, end_bits, AllFit, all_bits, IsModule}
use Rattle.modules.specs.Definition.Reading.{First, Break, end, illegal-item, end-of-input, Taken, taken_by, first, taken_in, looked_at, stream_bits, taken_of}
use Rattle.modules.specs.Definition.Counter.{after}
use Rattle.modules.specs.Definition.Judging.{judged_or, zeros, judged_at, judged, refusal_of}
use Rattle.modules.specs.Definition.Faults.{Faultless, FaultlessFrom, Begins}
use Rattle.modules.specs.Laws.Stored.{passed}
use Rattle.modules.specs.Laws.Numbers.{bytes-length, bytes-append, bytes_take}
use Rattle.modules.specs.Laws.Items.{first-item, first-end, item-stands, end-stands, taken_step, begins-less}
use Rattle.modules.specs.Laws.Faults.{none-at}
use Rattle.modules.specs.Laws.Tests.{says-fails, outside-says, above-says, touches-says}
use Rattle.modules.specs.declared.Item.{Item}
use Rattle.modules.specs.declared.Counter.{Counter}
use Rattle.modules.specs.declared.Target.{Target}
use Rattle.modules.specs.declared.Refusal.{Refusal}
use Rattle.modules.specs.declared.Refusal.TheVariants.{Module}

-- ---- a module's bits are read as its items

abbrev ended : List Item → List Bit → Taken
ended items rest = record { items = items; break = end rest }

ended-taken : (n : ℕ) (items : List Item) (rest : List Bit) → AllFit items → length (all_bits items ++ (end_bits ++ rest)) ≤ n
    → taken_in n (all_bits items ++ (end_bits ++ rest)) ≡ ended items rest
ended-taken n [] rest fit l = rw (taken_step n (end_bits ++ rest) l, first-end rest)
ended-taken n (i ∷ items) rest fit l =
    let bits = (item_bits i ++ all_bits items) ++ (end_bits ++ rest) in
    let behind = all_bits items ++ (end_bits ++ rest) in
    let b : Begins bits i behind = record { fits = fit.0; are = append_assoc (item_bits i) (all_bits items) (end_bits ++ rest) } in
    rw (taken_step n bits l, b.are, first-item i behind fit.0, ended-taken (pred n) items rest fit.1 (begins-less n b l))

module _ (stream : List ℕ) (items : List Item) (b : ℕ) (m : IsModule stream items b) where
  -- behind the end item: the padding, and the bytes that are not looked at
  abbrev behind_end : List Bit
  behind_end = replicate m.padding O ++ bits_in (drop b stream)

  module-bits : bits_in stream ≡ all_bits items ++ (end_bits ++ behind_end)
  module-bits =
      ap bits_in (sym (take-append-drop b stream)) ∙ bytes-append (take b stream) (drop b stream)
      ∙ rw m.bits (append_assoc (all_bits items) (end_bits ++ replicate m.padding O) (bits_in (drop b stream)))

  module-taken : (n : ℕ) → length (bits_in stream) ≤ n → taken_in n (bits_in stream) ≡ ended items behind_end
  module-taken n l = rw module-bits (ended-taken n items behind_end m.fit (rw module-bits at l))

  -- the bits of the module's own bytes
  module-size : 8 * b ≡ length (all_bits items) + 3 + m.padding
  module-size =
      let own = length-take-le b stream m.within in
      let sum = ap length m.bits ∙ length-append (all_bits items) (end_bits ++ replicate m.padding O) in
      omega (arith, bytes-length (take b stream), length-replicate m.padding O)

-- a stream has at most one list of items
pub one-module : (stream : List ℕ) (is js : List Item) (b d : ℕ) → IsModule stream is b → IsModule stream js d → (is ≡ js) × (b ≡ d)
one-module stream is js b d m k =
    let n = length (bits_in stream) in
    let same : is ≡ js = ap (λ (t : Taken). t.items) (sym (module-taken stream is b m n (le_refl n)) ∙ module-taken stream js d k n (le_refl n)) in
    let size : length (all_bits is) ≡ length (all_bits js) = ap (λ (l : List Item). length (all_bits l)) same in
    (same, omega (arith, module-size stream is b m, module-size stream js d k, m.less, k.less))

-- ---- what is read up to an end item stands there

first_ended : (bits : List Bit) (f : First) (more : List Bit → Taken) (rest : List Bit) → first bits ≡ f
    → ((behind : List Bit) → (more behind).break ≡ end rest → AllFit (more behind).items × (behind ≡ all_bits (more behind).items ++ (end_bits ++ rest)))
    → (taken_by f more).break ≡ end rest
    → AllFit (taken_by f more).items × (bits ≡ all_bits (taken_by f more).items ++ (end_bits ++ rest))
first_ended bits (First.item i behind) more rest q stand e =
    let (fit, are) = stand behind e in
    let b = item-stands bits i behind q in
    ((b.fits, fit), b.are ∙ ap (λ (l : List Bit). item_bits i ++ l) are ∙ sym (append_assoc (item_bits i) (all_bits (more behind).items) (end_bits ++ rest)))
first_ended bits (First.ends behind) more rest q stand e = let same : behind ≡ rest = cc in (tt, end-stands bits behind q ∙ rw same)
first_ended bits First.illegal more rest q stand e = (tt, cc)
first_ended bits First.runs-out more rest q stand e = (tt, cc)

taken-ended : (n : ℕ) (bits rest : List Bit) → (taken_in n bits).break ≡ end rest
    → AllFit (taken_in n bits).items × (bits ≡ all_bits (taken_in n bits).items ++ (end_bits ++ rest))
unfolding taken_in
taken-ended zero bits rest e = (tt, cc)
taken-ended (suc n) bits rest e = first_ended bits (first bits) (λ behind. taken_in n behind) rest refl (λ behind. taken-ended n behind rest) e

-- ---- what the loader accepts is a module

zeros-only : (n : ℕ) (bits : List Bit) → n ≤ length bits → zeros (take n bits) ≡ true → take n bits ≡ replicate n O
zeros-only zero bits h e = refl
zeros-only (suc n) [] h e = absurd (not-suc-le-zero h)
zeros-only (suc n) (O ∷ bits) h e = ap (λ (l : List Bit). O ∷ l) (zeros-only n bits (le_of_suc-le-suc h) e)
zeros-only (suc n) (I ∷ bits) h e = absurd (false≢true e)

only-zeros : (n : ℕ) → zeros (replicate n O) ≡ true
only-zeros zero = refl
only-zeros (suc n) = only-zeros n

-- a whole module ended, with zeros for padding
record EndsWhole (m : ℕ) (at : Break) (b : ℕ) : Type 0 where
  rest : List Bit
  ends : at ≡ end rest
  clean : zeros (take (length rest % 8) rest) ≡ true
  used : m - length rest / 8 ≡ b

whole-ended : (m : ℕ) (at : Break) (b : ℕ) → judged_at m at ≡ Ok b → EndsWhole m at b
whole-ended m (end rest) b e = go (zeros (take (length rest % 8) rest)) refl e
  where
    go : (z : Bool) → zeros (take (length rest % 8) rest) ≡ z → cond z (Ok (m - length rest / 8)) (Err Module) ≡ Ok b → EndsWhole m (end rest) b
    go true q w = record { rest = rest; ends = refl; clean = q; used = cc }
    go false q w = record { rest = rest; ends = refl; clean = cc; used = cc }
whole-ended m illegal-item b e = record { rest = []; ends = cc; clean = refl; used = cc }
whole-ended m end-of-input b e = record { rest = []; ends = cc; clean = refl; used = cc }

-- whole is what is behind all items
whole-else : (g : Target) (c : Counter) (items : List Item) (else : Result ℕ Refusal) (b : ℕ) → judged_or g c items else ≡ Ok b → else ≡ Ok b
unfolding judged_or
whole-else g c [] else b e = e
whole-else g c (i ∷ items) else b e =
    let p = passed g c i (judged_or g (after g.page c i) items else) (ap refusal_of e) in
    whole-else g (after g.page c i) items else b (rw (p.inside, p.below, p.clear) at e)

-- bits up to an end item, with zeros for padding, are a module's
module-of : (stream : List ℕ) (items : List Item) (rest : List Bit) (b : ℕ) → AllFit items → bits_in stream ≡ all_bits items ++ (end_bits ++ rest)
    → zeros (take (length rest % 8) rest) ≡ true → length stream - length rest / 8 ≡ b → IsModule stream items b
module-of stream items rest b fit are clean used = record { fit = fit; within = omega arith; padding = length rest % 8; less = omega arith; bits = bits }
  where
    front : List Bit
    front = all_bits items ++ end_bits

    front-size : length front ≡ length (all_bits items) + 3
    front-size = length-append (all_bits items) end_bits

    all-size : 8 * length stream ≡ length (all_bits items) + 3 + length rest
    all-size = omega (arith, bytes-length stream, ap length are ∙ length-append (all_bits items) (end_bits ++ rest))

    size : 8 * b ≡ length front + length rest % 8
    size = omega (arith, front-size, all-size)

    bits : bits_in (take b stream) ≡ all_bits items ++ (end_bits ++ replicate (length rest % 8) O)
    bits =
        bytes_take b stream
        ∙ rw (
          size,
          are,
          ← append_assoc (all_bits items) end_bits rest,
          take-append-add front rest (length rest % 8),
          zeros-only (length rest % 8) rest (omega arith) clean,
        ) (append_assoc (all_bits items) end_bits (replicate (length rest % 8) O))

pub whole-module : (g : Target) (c : Counter) (stream : List ℕ) (b : ℕ) → judged g c stream ≡ Ok b → IsModule (looked_at stream) (taken_of stream).items b
unfolding judged
whole-module g c stream b e =
    let w = whole-ended (length (looked_at stream)) (taken_of stream).break b (whole-else g c (taken_of stream).items _ b e) in
    let (fit, are) = taken-ended (length (stream_bits stream)) (stream_bits stream) w.rest w.ends in
    module-of (looked_at stream) (taken_of stream).items w.rest b fit are w.clean w.used

items-faultless : (g : Target) (c : Counter) (items : List Item) (else : Result ℕ Refusal) → refusal_of (judged_or g c items else) ≡ 0
    → FaultlessFrom g c items
unfolding judged_or
items-faultless g c [] else e = tt
items-faultless g c (i ∷ items) else e =
    let p = passed g c i (judged_or g (after g.page c i) items else) e in
    let l : Faultless g c i = record {
      inside = says-fails (outside-says c i) p.inside;
      below = says-fails (above-says g c i) p.below;
      clear = says-fails (touches-says g c i) p.clear;
    } in
    (l, items-faultless g (after g.page c i) items else p.else-whole)

-- and its items are without fault
pub whole-faultless : (g : Target) (c : Counter) (stream : List ℕ) (b : ℕ) → judged g c stream ≡ Ok b
    → FaultlessFrom g c (taken_of stream).items
unfolding judged
whole-faultless g c stream b e = items-faultless g c (taken_of stream).items _ (ap refusal_of e)

-- ---- and the other way round: a module without fault is accepted

pub module-items : (stream : List ℕ) (items : List Item) (b : ℕ) → IsModule (looked_at stream) items b → (taken_of stream).items ≡ items
module-items stream items b m = ap (λ (t : Taken). t.items) (module-taken (looked_at stream) items b m (length (stream_bits stream)) (le_refl _))

-- the same of a stream of any length
pub module-read : (stream : List ℕ) (items : List Item) (b : ℕ) → IsModule stream items b → (taken_in (length (bits_in stream)) (bits_in stream)).items ≡ items
module-read stream items b m = ap (λ (t : Taken). t.items) (module-taken stream items b m (length (bits_in stream)) (le_refl _))

faultless-else : (g : Target) (c : Counter) (items : List Item) (else : Result ℕ Refusal) → FaultlessFrom g c items → judged_or g c items else ≡ else
unfolding judged_or
faultless-else g c [] else l = refl
faultless-else g c (i ∷ items) else l =
    none-at g c i _ l.0 ∙ faultless-else g (after g.page c i) items else l.1

-- bits behind an end item that are zeros and whole bytes
padded-whole : (n k p b : ℕ) (bits : List Bit) → p < 8 → length bits ≡ 8 * k → n - k ≡ b → judged_at n (end (replicate p O ++ bits)) ≡ Ok b
padded-whole n k p b bits h e q =
    let size : length (replicate p O ++ bits) ≡ p + 8 * k = length-append (replicate p O) bits ∙ rw (length-replicate p O, e) in
    let left : (p + 8 * k) % 8 ≡ p = omega arith in
    let bytes : (p + 8 * k) / 8 ≡ k = omega arith in
    rw (size, left, bytes, take_at (replicate p O) bits p (length-replicate p O), only-zeros p, q)

pub module-whole : (g : Target) (c : Counter) (stream : List ℕ) (items : List Item) (b : ℕ) → IsModule (looked_at stream) items b
    → FaultlessFrom g c items → judged g c stream ≡ Ok b
unfolding judged
module-whole g c stream items b m l =
    let seen = looked_at stream in
    let k = length (drop b seen) in
    let left : length seen - k ≡ b = omega (arith, m.within, length-drop b seen) in
    rw (module-taken seen items b m (length (stream_bits stream)) (le_refl _))
    (faultless-else g c items _ l ∙ padded-whole (length seen) k m.padding b (bits_in (drop b seen)) m.less (bytes-length (drop b seen)) left)

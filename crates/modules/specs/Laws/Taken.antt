-- The reading bit by bit judges what the definition judges, and stores what stands before the item at fault.
use Rattle.std.specs.Prelude.{◌≡◌, ℕ, zero, suc, ◌≤◌, Bool, true, false, List, [], ◌∷◌, length, Result}
use Rattle.std.proofs.Math.Path.{refl, ap}
use Rattle.std.proofs.Common.{◌∙◌, arith}
use Rattle.modules.specs.Definition.Bits.{Bit}
use Rattle.modules.specs.Definition.Reading.{First, item, ends, illegal, runs-out, first, Taken, taken_by, taken_in, looked_at, stream_bits, taken_of}
use Rattle.modules.specs.Definition.Counter.{after, puts_of}
use Rattle.modules.specs.Definition.Judging.{outside, above, touches, fault_or, judged_or, judged_at, judged, refusal_of}
use Rattle.modules.specs.Within.Scan.{Scan, with_item, scan, puts_before, stored_before}
use Rattle.modules.specs.Laws.Items.{Stands, first-stands, begins-less}
use Rattle.modules.specs.Laws.Scan.{by_first, scan-first}
use Rattle.modules.specs.Laws.Stored.{passed}
use Rattle.modules.specs.declared.Item.{Item}
use Rattle.modules.specs.declared.Counter.{Counter}
use Rattle.modules.specs.declared.Target.{Target}
use Rattle.modules.specs.declared.Refusal.{Refusal}

-- what is taken, judged and put
abbrev taking : (n : ℕ) → Target → Counter → Taken → Scan
taking n g c t = record { judged = judged_or g c t.items (judged_at n t.break); puts = puts_before g c t.items }

with_item_lem : (g : Target) (c : Counter) (i : Item) (o a t : Bool) → outside c i ≡ o → above g c i ≡ a → touches g c i ≡ t → (j : Result ℕ Refusal) (items : List Item)
    → with_item g c i (record { judged = j; puts = puts_before g (after g.page c i) items }) ≡ record { judged = fault_or g c i j; puts = puts_before g c (i ∷ items) }
unfolding puts_before
with_item_lem g c i true a t p q r j items = rw p
with_item_lem g c i false true t p q r j items = rw (p, q)
with_item_lem g c i false false true p q r j items = rw (p, q, r)
with_item_lem g c i false false false p q r j items = rw (p, q, r)

module _ (n : ℕ) (g : Target) where
  scan-in : (k : ℕ) (c : Counter) (bits : List Bit) → length bits ≤ k → scan n g c 1 3 bits ≡ taking n g c (taken_in k bits)
  unfolding taken_in judged_or puts_before scan
  scan-in zero c [] h = refl
  scan-in zero c (b ∷ bits) h = absurd (omega arith)
  scan-in (suc k) c bits h =
      scan-first n g c bits ∙ go (first bits) (first-stands bits) (λ d rest l. scan-in k d rest l)
    where
      go : (f : First) → Stands bits f → ((d : Counter) (rest : List Bit) → length rest ≤ k → scan n g d 1 3 rest ≡ taking n g d (taken_in k rest))
          → by_first n g c f ≡ taking n g c (taken_by f (λ rest. taken_in k rest))
      go (item i rest) b more =
          let t = taken_in k rest in
          let d = after g.page c i in
          ap (λ (s : Scan). with_item g c i s) (more d rest (begins-less (suc k) b h))
          ∙ with_item_lem g c i (outside c i) (above g c i) (touches g c i) refl refl refl (judged_or g d t.items (judged_at n t.break)) t.items
      go (ends rest) b more = refl
      go illegal b more = refl
      go runs-out b more = refl

-- of a whole stream
pub scan-stream : (g : Target) (c : Counter) (stream : List ℕ)
    → scan (length (looked_at stream)) g c 1 3 (stream_bits stream) ≡ record { judged = judged g c stream; puts = stored_before g c stream }
unfolding judged
scan-stream g c stream = scan-in (length (looked_at stream)) g (length (stream_bits stream)) c (stream_bits stream) (omega arith)

-- where no item is at fault, all is stored
before-all : (g : Target) (c : Counter) (items : List Item) (else : Result ℕ Refusal) → refusal_of (judged_or g c items else) ≡ 0 → puts_before g c items ≡ puts_of g.page c items
unfolding puts_before judged_or
before-all g c [] else e = refl
before-all g c (i ∷ items) else e =
    let h = passed g c i (judged_or g (after g.page c i) items else) e in
    rw (h.inside, h.below, h.clear, before-all g (after g.page c i) items else h.else-whole)

pub stored-all : (g : Target) (c : Counter) (stream : List ℕ) → refusal_of (judged g c stream) ≡ 0 → stored_before g c stream ≡ puts_of g.page c (taken_of stream).items
unfolding judged
stored-all g c stream e = before-all g c (taken_of stream).items (judged_at (length (looked_at stream)) (taken_of stream).break) e

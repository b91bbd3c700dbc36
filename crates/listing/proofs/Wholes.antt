-- The text of a whole log, from the lines of its buffer.
use mathlib.Core.Path.{◌≡◌, refl, sym, ap, ◌∙◌}
use mathlib.Core.List.{List, [], ◌++◌, append_assoc, append-nil}
use Prim.Native.Nat.{ℕ, ◌+◌, ◌-◌, ◌≤◌, ◌<◌}
use native.Mathlib.Omega.{arith}
use lib.ListN.{length, take, drop, replicate, length-append, length-drop}
use lib.Seq.{length-take-le}
use Rattle.kernel.specs.Definition.Start.{no_tables}
use Rattle.kernel.specs.declared.Tables.{Tables}
use Rattle.text.specs.Definition.Put.{Put}
use Rattle.text.specs.Laws.Text.{put-within}
use Rattle.listing.specs.declared.Drained.{Drained}
use Rattle.listing.specs.declared.Stop.{Stop}
use Rattle.listing.specs.declared.Stop.TheVariants.{More, Full, Bad}
use Rattle.events.specs.declared.NoRecord.TheVariants.{Cut}
use Rattle.std.specs.Prelude.{Err, Some}
use Rattle.events.specs.Definition.Records.{front_of}
use Rattle.events.specs.Laws.Front.{bad-stays, record-stays, body-stays, rest-stays}
use Rattle.listing.specs.Definition.Log.{ending, text_from, listing}
use Rattle.listing.specs.Definition.Pieces.{longest, Mark, begin, Drains, full, more, ends, line, reached, Fills, Lists}
use Rattle.listing.specs.Laws.Log.{text-record, text-bad, text-cut}
use Rattle.listing.specs.Laws.One.{one-stop}
use Rattle.listing.specs.Laws.Pieces.{Carry}
use Rattle.listing.proofs.Carries.{put-behind}

pub bad-first : {stop : Stop} → stop ≡ Bad → stop ≡ Full → ⊥
bad-first e f = cc (e, f)

pub more-first : {stop : Stop} → stop ≡ More → stop ≡ Full → ⊥
more-first e f = cc (e, f)

-- where the lines stop
abbrev pub Stopped : ℕ → Mark → Stop → Type 0
Stopped size to More = (front_of to.left ≡ Err Cut) × (length to.text + longest ≤ size)
Stopped size to Full = size < length to.text + longest
Stopped size to Bad = Unit {0}

pub stopped : {size : ℕ} {m to : Mark} {stop : Stop} → Drains size m to stop → Stopped size to stop
stopped (full h) = h
stopped (more h e) = (e, h)
stopped (ends h e) = tt
stopped (line h e d) = stopped d

pub room-left : (m : Mark) (r : Drained) (ram out input text : List ℕ) → r.stop ≡ More → Drains (length text) m (reached r ram out input text) r.stop
    → (front_of (drop r.taken input) ≡ Err Cut) × (length (take r.used text) + longest ≤ length text)
room-left m r ram out input text e d = rw e at (stopped d)

-- the text of a log that is listed up to a mark, whatever follows
abbrev text_of : Mark → List ℕ → List ℕ
text_of m ys = m.text ++ text_from m.tables m.ram m.output (m.left ++ ys)

abbrev text_at : Stop → Mark → List ℕ → List ℕ
text_at More m ys = text_of m ys
text_at Full m ys = text_of m ys
text_at Bad m ys = m.text

goes_on : {size : ℕ} {m to : Mark} {stop : Stop} → Drains size m to stop → (ys : List ℕ) → text_of m ys ≡ text_at stop to ys
goes_on (full h) ys = refl
goes_on (more h e) ys = refl
goes_on (ends {m} h e) ys = ap (λ (l : List ℕ). m.text ++ l) (text-bad m.tables m.ram m.output (m.left ++ ys) (bad-stays m.left ys e))
goes_on (line {m} {to} {f} h e d) ys =
    ap (λ (l : List ℕ). m.text ++ l)
    (rw (body-stays m.left ys f e, rest-stays m.left ys f e) at
    (text-record m.tables m.ram m.output (m.left ++ ys) f (record-stays m.left ys f e)))
    ∙ sym (append_assoc m.text _ _)
    ∙ goes_on d ys

-- a piece that is drained is one of a `Session`
pub carry-more : {size : ℕ} {t : Tables} {ram out xs : List ℕ} {to : Mark} → Drains size (begin t ram out xs) to More
    → Carry t ram out xs to.tables to.ram to.output to.left to.text
carry-more d = record { holds = goes_on d }

pub carry-full : {size : ℕ} {t : Tables} {ram out xs : List ℕ} {to : Mark} → Drains size (begin t ram out xs) to Full
    → Carry t ram out xs to.tables to.ram to.output to.left to.text
carry-full d = record { holds = goes_on d }

pub carry-bad : {size : ℕ} {t : Tables} {ram out xs : List ℕ} {to : Mark} → Drains size (begin t ram out xs) to Bad
    → (ys : List ℕ) → text_from t ram out (xs ++ ys) ≡ to.text
carry-bad d = goes_on d

pub put_first : {d e : List ℕ} {n : ℕ} {xs : List ℕ} → take n e ≡ xs → n ≤ length e → drop n e ≡ drop n d → Put d e 0 n xs
put_first {d} {e} {n} {xs} t h b = record { stop = omega (arith, ap length t, length-take-le n e h); text = t; behind = b }

module _ (t : Tables) (e : t ≡ no_tables) (log : List ℕ) (r : Drained) (ram out text : List ℕ)
    (d : Drains (length text) (begin t (replicate 65536 0) (replicate 4096 0) log) (reached r ram out log text) r.stop) where
  is-listing : text_from t (replicate 65536 0) (replicate 4096 0) (log ++ []) ≡ listing log
  unfolding listing
  is-listing = rw (e, append-nil log)

  pub never-full : (r.stop ≡ Full → ⊥) → (size : ℕ) → size ≡ length text → (to : Mark) → ¬ Fills log size to
  never-full n size q to f = n (one-stop d (rw (q, ← e) at f)).1

  pub fills : r.stop ≡ Full → (text₀ : List ℕ) → r.used ≤ length text → drop r.used text ≡ drop r.used text₀
      → (to : Mark) × Fills log (length text) to × Put text₀ text 0 (length to.text) to.text
  fills q text₀ h b = (_, rw (e, q) at d, rw (length-take-le r.used text h) (put_first refl h b))

  pub listed-bad : r.stop ≡ Bad → take r.used text ≡ listing log
  listed-bad q = let b = rw q at d in sym (carry-bad b []) ∙ is-listing

  carried : Carry t (replicate 65536 0) (replicate 4096 0) log r.tables ram out (drop r.taken log) (take r.used text)
      → take r.used text ++ text_from r.tables ram out (drop r.taken log) ≡ listing log
  carried c = rw (append-nil (drop r.taken log)) at (sym (c.holds []) ∙ is-listing)

  pub listed-over : r.stop ≡ Full → r.used ≤ length text → length text < length (listing log) + longest
  listed-over q h =
      let f = rw q at d in
      rw (← carried (carry-full f), length-append, length-take-le r.used text h) (omega (arith, stopped f, length-take-le r.used text h))

  pub listed-text : r.stop ≡ More → (text₂ : List ℕ) (end : ℕ) → Put text text₂ r.used end (ending (length log - r.taken)) → take end text₂ ≡ listing log
  listed-text q text₂ end p =
      let f = rw q at d in
      p.text ∙ rw (← length-drop r.taken log, ← text-cut r.tables ram out (drop r.taken log) (stopped f).0) (carried (carry-more f))

  -- with the end of the log written behind the lines
  pub over : r.stop ≡ More → {text₀ after : List ℕ} {end : ℕ} → drop r.used text ≡ drop r.used text₀ → r.used ≤ length text → end ≤ length text
      → Put text after r.used end (ending (length log - r.taken)) → Lists log text₀ after (Some end)
  over q {text₀} {after} {end} b u h p =
      let k : end ≤ length after = put-within u p in
      let same : length after ≡ length text = omega (arith, ap length p.behind, length-drop end after, length-drop end text) in
      (put_first (listed-text q after end p) k (put-behind text₀ b p), never-full (more-first q) (length after) same)

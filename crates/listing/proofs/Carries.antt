-- The lines of a buffer, record by record.
use mathlib.Core.Path.{◌≡◌, sym, ap, ◌∙◌}
use mathlib.Core.List.{List}
use Prim.Native.Nat.{ℕ, ◌+◌, ◌<◌, ◌≤◌}
use native.Mathlib.Omega.{arith}
use lib.ListN.{length, take, drop}
use lib.Seq.{drop-drop, length-take-le}
use Rattle.kernel.specs.declared.Tables.{Tables}
use Rattle.text.specs.Definition.Put.{Put}
use Rattle.text.specs.declared.Cursor.{Cursor}
use Rattle.events.specs.declared.NoRecord.TheVariants.{Cut, Bad}
use Rattle.events.specs.declared.Record.{Record}
use Rattle.std.specs.Prelude.{Ok, Err}
use Rattle.events.specs.Definition.Records.{front_of, body_of, rest_of}
use Rattle.listing.specs.declared.Drained.{Drained}
use Rattle.listing.specs.declared.Stop.{Stop}
use Rattle.listing.specs.declared.Stop.TheVariants.{More, Full, Bad as Ends}
use Rattle.listing.specs.Definition.NoneOrGood.{NoneOrGood}
use Rattle.listing.specs.Definition.Log.{log_step, line_after, bad_text}
use Rattle.listing.specs.Definition.Pieces.{longest, Mark, begin, Drains, full, more, ends, line, reached}

-- the bytes behind those that are written
pub put-behind : (d : List ℕ) {u v : List ℕ} {m r : ℕ} {xs : List ℕ} → drop m u ≡ drop m d → Put u v m r xs → drop r v ≡ drop r d
put-behind d {u} {v} {m} {r} {xs} e p =
    let passed : (l : List ℕ) → drop (length xs) (drop m l) ≡ drop r l = λ l. drop-drop (length xs) m l ∙ ap (λ (k : ℕ). drop k l) (sym p.stop) in
    p.behind ∙ sym (passed u) ∙ ap (drop (length xs)) e ∙ passed d

-- what `drain` leaves
abbrev pub Leaves : (t : Tables) (ram out input text : List ℕ) (r : Drained) (ram' out' text' : List ℕ) → Type 0
Leaves t ram out input text r ram' out' text' =
    Drains (length text') (begin t ram out input) (reached r ram' out' input text') r.stop × NoneOrGood r.tables × (r.taken ≤ length input) × (r.used ≤ length text')
    × (drop r.used text' ≡ drop r.used text)

-- a cursor that is another has its name
pub named : {c d : Cursor} {n : ℕ} → d ≡ c → c.text.ghost_name ≡ n → d.text.ghost_name ≡ n
named p q = rw p q

-- the text behind a cursor that still has its name
pub leaves : {A : Type 0} {n m : A} {t : Tables} {ram out input ram' out' there after : List ℕ} {r : Drained} (text : List ℕ) → m ≡ n → (n ≡ m → after ≡ there)
    → Leaves t ram out input text r ram' out' there → Leaves t ram out input text r ram' out' after
leaves text same back h = rw (back (sym same)) h

abbrev pub mark : Tables → (ram out left text : List ℕ) → Mark
mark t ram out left text = record { tables = t; ram = ram; output = out; left = left; text = text }

-- the lines have come to a mark, whose text is the first `used` bytes of a text of `size` bytes
module _ (size : ℕ) (start : Mark) (t : Tables) (ram out left text : List ℕ) (used : ℕ)
    (goes : (to : Mark) (stop : Stop) → Drains size (mark t ram out left (take used text)) to stop → Drains size start to stop) (h : used ≤ length text)
    (e : length text ≡ size) where
  room : used + longest ≤ length text → length (take used text) + longest ≤ size
  room r = rw (length-take-le used text h, ← e) r

  pub drain-full : length text < used + longest → Drains (length text) start (mark t ram out left (take used text)) Full
  drain-full r = rw e (goes _ _ (full (omega (arith, r, e, length-take-le used text h))))

  module _ (r : used + longest ≤ length text) where
    pub drain-more : front_of left ≡ Err Cut → Drains (length text) start (mark t ram out left (take used text)) More
    drain-more f = rw e (goes _ _ (more (room r) f))

    pub drain-bad : front_of left ≡ Err Bad → (text₂ : List ℕ) (used₂ : ℕ) → Put text text₂ used used₂ bad_text → length text₂ ≡ size
        → Drains (length text₂) start (mark t ram out left (take used₂ text₂)) Ends
    drain-bad f text₂ used₂ p k = rw (k, p.text) (goes _ _ (ends (room r) f))

    -- one record more
    pub drain-line : (f : Record) → front_of left ≡ Ok f → (t₂ : Tables) (ram₂ out₂ text₂ : List ℕ) (used₂ : ℕ)
        → t₂ ≡ (log_step t ram out f.kind (body_of left f.size)).tables → ram₂ ≡ (log_step t ram out f.kind (body_of left f.size)).ram
        → out₂ ≡ (log_step t ram out f.kind (body_of left f.size)).output → Put text text₂ used used₂ (line_after f.kind (log_step t ram out f.kind (body_of left f.size)))
        → (to : Mark) (stop : Stop) → Drains size (mark t₂ ram₂ out₂ (rest_of left f.size) (take used₂ text₂)) to stop → Drains size start to stop
    drain-line f e' t₂ ram₂ out₂ text₂ used₂ tables-are ram-is output-is put to stop d =
        goes to stop (line (room r) e' (rw (tables-are, ram-is, output-is, put.text) at d))

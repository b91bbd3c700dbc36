-- The turns of the reader's loops.
use Rattle.std.specs.Prelude.{◌≡◌, ℕ, ◌+◌, ◌*◌, ◌^◌, ◌<◌, ◌≤◌, Bool, true, false, List, [], ◌∷◌, ◌++◌, length, take, drop, ◌==◌, refl, Result, Ok, Err}
use Rattle.std.proofs.Common.{sym, ap, ◌∙◌, arith, eq-eqb, ne_eqb, drop-drop, length-take-le}
use Rattle.line.specs.Definition.Ram.{put_at}
use Rattle.modules.specs.Definition.Bits.{Bit, bits_in, number_of}
use Rattle.modules.specs.Definition.Reading.{looked_at, stream_bits, end-of-input}
use Rattle.modules.specs.Definition.Counter.{after, Put, puts_at, put_each}
use Rattle.modules.specs.Definition.Judging.{outside, above, touches, judged_at, judged}
use Rattle.modules.specs.Within.Codes.{wants, item_of}
use Rattle.modules.specs.Within.Acts.{item_act, or_stops, act_of, act_puts, put_where, settled}
use Rattle.modules.specs.Within.Scan.{Scan, stops, with_item, whole, scan, scanned, stored_before}
use Rattle.modules.specs.Laws.Numbers.{number-from}
use Rattle.modules.specs.Laws.Positions.{rest-length}
use Rattle.modules.specs.Laws.Acts.{put-none}
use Rattle.modules.specs.Laws.Scan.{scan-short, scan-take}
use Rattle.modules.specs.Laws.Taken.{scan-stream}
use Rattle.modules.specs.declared.Item.{Item}
use Rattle.modules.specs.declared.Counter.{Counter}
use Rattle.modules.specs.declared.Target.{Target}
use Rattle.modules.specs.declared.Stop.{Stop}
use Rattle.modules.specs.declared.Stop.TheVariants.{Exhausted}
use Rattle.modules.specs.declared.Refusal.{Refusal}

-- what is put in two goes
each_more : (base : ℕ) (ram : List ℕ) (ps qs : List Put) → put_each base (put_each base ram ps) qs ≡ put_each base ram (ps ++ qs)
each_more base ram [] qs = refl
each_more base ram (p ∷ ps) qs = each_more base (put_at ram (base + p.offset) (p.byte ∷ [])) ps qs

put-more : (storing : Bool) (base : ℕ) (ram : List ℕ) (ps qs : List Put) → put_where storing base (put_where storing base ram ps) qs ≡ put_where storing base ram (ps ++ qs)
put-more true base ram ps qs = each_more base ram ps qs
put-more false base ram ps qs = refl

-- a whole item does what comes of it
abbrev by_act : (n : ℕ) → Result Counter Stop → Counter → Item → (rest : List Bit) → (Counter → Scan) → Scan
by_act n (Ok d) c i rest more = record { judged = (more d).judged; puts = puts_at c i ++ (more d).puts }
by_act n (Err why) c i rest more = stops (settled n why rest)

item-act : (n : ℕ) (g : Target) (c : Counter) (i : Item) (rest : List Bit) (more : Counter → Scan) (o a t : Bool) → outside c i ≡ o → above g c i ≡ a → touches g c i ≡ t
    → with_item g c i (more (after g.page c i)) ≡ by_act n (or_stops (item_act g c i)) c i rest more
item-act n g c i rest more true a t p q r = rw p
item-act n g c i rest more false true t p q r = rw (p, q)
item-act n g c i rest more false false true p q r = rw (p, q, r)
item-act n g c i rest more false false false p q r = rw (p, q, r)

whole_by : (n : ℕ) (g : Target) (c : Counter) (code : ℕ) (rest : List Bit) (more : Counter → Scan) (e i : Bool) → (code == 14) ≡ e → (code == 15) ≡ i
    → whole n g c code rest more ≡ by_act n (act_of g c code) c (item_of code) rest more
unfolding whole act_of
whole_by n g c code rest more true i p q = rw p
whole_by n g c code rest more false true p q = rw (p, q)
whole_by n g c code rest more false false p q =
    let x = item_of code in
    rw (p, q) (item-act n g c x rest more (outside c x) (above g c x) (touches g c x) refl refl refl)

whole-act : (n : ℕ) (g : Target) (c : Counter) (code left : ℕ) (rest : List Bit) (act : Result Counter Stop) → left ≤ 0 → act ≡ act_of g c code
    → scanned n g c code left rest ≡ by_act n act c (item_of code) rest (λ d. scan n g d 1 3 rest)
whole-act n g c code left rest act h e =
    rw (eq-eqb left 0 (omega arith), e) (whole_by n g c code rest (λ d. scan n g d 1 3 rest) (code == 14) (code == 15) refl refl)

-- what the reading will come to: what is judged, and the RAM
abbrev pub Comes : (storing : Bool) (base : ℕ) (ram : List ℕ) → Scan → Result ℕ Refusal → List ℕ → Type 0
Comes storing base ram s j final = (s.judged ≡ j) × (put_where storing base ram s.puts ≡ final)

module _ (seen : List ℕ) (n : ℕ) (g : Target) (c : Counter) (code left at : ℕ) (some : 0 < left) where
  abbrev rest : List Bit
  rest = drop at (bits_in seen)

  scanned-some : scanned n g c code left rest ≡ scan n g c code left rest
  scanned-some = rw (ne_eqb left 0 (omega arith))

  -- a turn of the bit fetch
  pub turn : (x y w : ℕ) (all : Scan) → at + left ≤ 8 * length seen → x ≡ number_of 0 (take left rest) → y ≡ code * 2 ^ left → w ≡ wants (y + x) 0
      → scanned n g c code left rest ≡ all → scanned n g c (y + x) w (drop (at + left) (bits_in seen)) ≡ all
  turn x y w all h e f q i =
      let l = rest-length seen at in
      let z : number_of code (take left rest) ≡ y + x = number-from code (take left rest) ∙ rw (length-take-le left rest (omega arith), f, e) in
      let d : drop left rest ≡ drop (at + left) (bits_in seen) = drop-drop left at (bits_in seen) in
      rw (q, ← d, ← z) (sym (scanned-some ∙ scan-take n g c left code rest some (omega arith)) ∙ i)

  -- the input is at its end
  pub ran_out : 8 * length seen < at + left → stops (judged_at n end-of-input) ≡ scanned n g c code left rest
  ran_out h = let l = rest-length seen at in sym (scanned-some ∙ scan-short n g c left code rest (omega arith))

module _ (n : ℕ) (g : Target) (c : Counter) (code left : ℕ) (rest : List Bit) (act : Result Counter Stop) (l : left ≤ 0) (e : act ≡ act_of g c code)
    (storing : Bool) (base : ℕ) (ram ram₁ : List ℕ) (p : ram₁ ≡ put_where storing base ram (act_puts act c (item_of code))) (s : Scan)
    (i : scanned n g c code left rest ≡ s) (j : Result ℕ Refusal) (final : List ℕ) (k : Comes storing base ram s j final) where
  scanned-by : (a : Result Counter Stop) → act ≡ a → by_act n a c (item_of code) rest (λ d. scan n g d 1 3 rest) ≡ s
  scanned-by a q = sym (whole-act n g c code left rest a l (sym q ∙ e)) ∙ i

  stored-by : (a : Result Counter Stop) → act ≡ a → ram₁ ≡ put_where storing base ram (act_puts a c (item_of code))
  stored-by a q = p ∙ ap (λ (a : Result Counter Stop). put_where storing base ram (act_puts a c (item_of code))) q

  -- the item is whole, and the reading goes on
  pub goes : (d : Counter) → act ≡ Ok d → Comes storing base ram₁ (scan n g d 1 3 rest) j final
  goes d q =
      let more = scan n g d 1 3 rest in
      let w = scanned-by (Ok d) q in (
        ap (λ (z : Scan). z.judged) w ∙ k.0,
        ap (λ (z : List ℕ). put_where storing base z more.puts) (stored-by (Ok d) q) ∙ put-more storing base ram (puts_at c (item_of code)) more.puts
            ∙ ap (λ (z : Scan). put_where storing base ram z.puts) w ∙ k.1,
      )

  -- or it breaks off
  pub halts : (why stop : Stop) (ram₂ : List ℕ) → act ≡ Err why → stop ≡ why → ram₂ ≡ ram₁ → (settled n stop rest ≡ j) × (ram₂ ≡ final)
  halts why stop ram₂ q f r =
      let w = scanned-by (Err why) q in (
        ap (λ (y : Stop). settled n y rest) f ∙ ap (λ (z : Scan). z.judged) w ∙ k.0,
        r ∙ stored-by (Err why) q ∙ ap (λ (z : Scan). put_where storing base ram z.puts) w ∙ k.1,
      )

-- the reading breaks off at the end of input
pub stopped : (n : ℕ) (rest : List Bit) (storing : Bool) (base : ℕ) (ram ram₁ : List ℕ) (s : Scan) (stop : Stop) (j : Result ℕ Refusal) (final : List ℕ)
    → stops (judged_at n end-of-input) ≡ s → Comes storing base ram s j final → stop ≡ Exhausted → ram₁ ≡ ram → (settled n stop rest ≡ j) × (ram₁ ≡ final)
stopped n rest storing base ram ram₁ s stop j final e k f r = (
  ap (λ (y : Stop). settled n y rest) f ∙ ap (λ (z : Scan). z.judged) e ∙ k.0,
  r ∙ put-none storing base ram ∙ ap (λ (z : Scan). put_where storing base ram z.puts) e ∙ k.1,
)

pub finished : {r settled j : Result ℕ Refusal} {ram final : List ℕ} → r ≡ settled → (settled ≡ j) × (ram ≡ final) → (r ≡ j) × (ram ≡ final)
finished e h = (e ∙ h.0, h.1)

-- the reading starts
pub starts : (stream : List ℕ) (g : Target) (c : Counter) (storing : Bool) (base : ℕ) (ram : List ℕ)
    → Comes storing base ram (scan (length (looked_at stream)) g c 1 3 (drop 0 (stream_bits stream))) (judged g c stream) (put_where storing base ram (stored_before g c stream))
starts stream g c storing base ram =
    let e = scan-stream g c stream in
    (ap (λ (s : Scan). s.judged) e, ap (λ (s : Scan). put_where storing base ram s.puts) e)

-- One step: a done call is known by its kind, the RAM keeps its length, and good tables with RAM of their size stay so.
use Rattle.std.specs.Prelude.{◌≡◌, refl, Bool, true, false, cond, ◌&&◌, ◌||◌, List, [], ◌∷◌, ◌++◌, ℕ, ◌+◌, ◌-◌, ◌≤◌, ◌<◌, ltb, length, take, drop, replicate}
use Rattle.std.proofs.Common.{sym, ap, subst, ◌∙◌, arith, ltb-true, length-append, length-take, length-drop}
use Rattle.std.proofs.lemmas.Bool.{false≢true}
use Rattle.std.proofs.lemmas.List.{length-replicate}
use Rattle.rows.specs.Laws.Lists.{and_left}
use Rattle.line.specs.Definition.Line.{place_of, put_line, after_open, after_close, after_link}
use Rattle.line.specs.Definition.Ram.{put_at}
use Rattle.line.specs.Laws.Walks.{length-put}
use Rattle.modules.specs.Definition.Counter.{Put, put_each}
use Rattle.modules.specs.Laws.Stored.{Below, stored-below}
use Rattle.modules.specs.Definition.Judging.{puts_in}
use Rattle.kernel.specs.Definition.Tables.{row_of}
use Rattle.kernel.specs.Definition.Line.{total_of}
use Rattle.kernel.specs.Definition.Reset.{bit4, bit5}
use Rattle.kernel.specs.Definition.Segments.{may_reach, reach_of}
use Rattle.kernel.specs.Definition.Answers.{granted, Decision}
use Rattle.kernel.specs.Definition.Calls.{Call, is_start}
use Rattle.kernel.specs.Definition.Bytes.{segment_at, ram_after}
use Rattle.kernel.specs.Definition.Step.{Result, completed, step}
use Rattle.kernel.specs.Laws.Effects.{Effect, resets, opens, closes, reads, writes, names, counts, links, tells, bounds, grants, shares, frees, stores, loads, loads-module, effect}
use Rattle.kernel.specs.Laws.Keeps.{start-passed, start_is}
use Rattle.kernel.specs.Laws.Facts.{reach-small}
use Rattle.kernel.specs.Laws.Ready.{Ready, decided-ready, start-ready}
use Rattle.kernel.specs.declared.Tables.{Tables}
use Rattle.history.specs.Definition.Runs.{State, after, event, Started, NotAccepted}
use Rattle.history.specs.Answers.Refused.{refused-changes-nothing}

-- a state with good tables, and RAM of their size
abbrev pub Sound : State → Type 0
Sound s = Ready s.tables (length s.ram)

-- the RAM keeps its length
pub store-fits : (t : Tables) (ram : List ℕ) (row offset size : ℕ) → Ready t (length ram) → may_reach t row ≡ true → offset + size ≤ reach_of t row
    → segment_at row + offset + size ≤ length ram
store-fits t ram row offset size r m h =
    let known : row < t.segments = ltb-true _ _ (and_left (ltb row t.segments) _ m) in
    omega (arith, reach-small t r.good row, r.size)

length-put-at : (ram : List ℕ) (here : ℕ) (xs : List ℕ) → here + length xs ≤ length ram → length (put_at ram here xs) ≡ length ram
unfolding put_at
length-put-at ram here xs h =
    omega (
      arith,
      length-append (take here ram) (xs ++ drop (here + length xs) ram),
      length-append xs (drop (here + length xs) ram),
      length-take here ram,
      length-drop (here + length xs) ram,
    )

-- bytes put one by one where the user may store
module _ (t : Tables) (row : ℕ) (m : may_reach t row ≡ true) where
  byte-length : (ram : List ℕ) (p : Put) → Ready t (length ram) → p.offset < reach_of t row
      → length (put_at ram (segment_at row + p.offset) (p.byte ∷ [])) ≡ length ram
  byte-length ram p r h = length-put-at ram (segment_at row + p.offset) (p.byte ∷ []) (store-fits t ram row p.offset 1 r m (omega arith))

  pub byte-ready : (ram : List ℕ) (p : Put) → Ready t (length ram) → p.offset < reach_of t row
      → Ready t (length (put_at ram (segment_at row + p.offset) (p.byte ∷ [])))
  byte-ready ram p r h = rw (byte-length ram p r h) r

  length-each : (ram : List ℕ) (puts : List Put) → Ready t (length ram) → Below (reach_of t row) puts → length (put_each (segment_at row) ram puts) ≡ length ram
  length-each ram [] r h = refl
  length-each ram (p ∷ puts) r (l, h) = length-each (put_at ram (segment_at row + p.offset) (p.byte ∷ [])) puts (byte-ready ram p r l) h ∙ byte-length ram p r l

length-reset : (t : Tables) (ram : List ℕ) (four five : Bool)
    → length (let emptied = cond (four || five) (put_line t.chain t.room ram 0 (replicate (total_of t) 0)) ram in
    cond five (put_line t.chain t.cold emptied 0 (replicate (t.cold - t.room) 0)) emptied) ≡ length ram
length-reset t ram true true = length-put (place_of t.chain t.cold) _ _ 0 ∙ length-put (place_of t.chain t.room) _ ram 0
length-reset t ram true false = length-put (place_of t.chain t.room) _ ram 0
length-reset t ram false true = length-put (place_of t.chain t.cold) _ _ 0 ∙ length-put (place_of t.chain t.room) _ ram 0
length-reset t ram false false = refl

pub done-length : {t : Tables} {c : Call} {d : Decision} (ram : List ℕ) → Ready t (length ram) → Effect t c d
    → length (ram_after t d.tables ram d.ram) ≡ length ram
unfolding ram_after after_open after_close after_link
done-length {t} ram r (resets {flags}) = length-reset t ram (bit4 flags) (bit5 flags)
done-length ram r (opens c e m low new device few fits) = length-put (place_of _ _) _ ram _
done-length ram r (closes h) = length-put (place_of _ _) _ ram _
done-length ram r (reads h) = refl
done-length ram r (writes h l) = length-put (place_of _ _) _ ram _
done-length ram r (names h) = refl
done-length ram r counts = refl
done-length ram r (links w few h fits) = length-put (place_of _ _) _ _ 0 ∙ length-put (place_of _ _) _ ram 0
done-length ram r tells = refl
done-length ram r (bounds s h) = refl
done-length ram r (grants h) = refl
done-length ram r (shares s) = refl
done-length ram r (frees h o) = refl
done-length {t} ram r (stores {segment} {offset} {bytes} m h) =
    length-put-at ram (segment_at (row_of t segment) + offset) bytes (store-fits t ram (row_of t segment) offset (length bytes) r m h)
done-length ram r (loads m h) = refl
done-length {t} ram r (loads-module {segment} {page} {offset} {stream} b m h) = length-each t (row_of t segment) m ram (puts_in page offset stream) r (stored-below _ _ _ h)

tables-ready : (s : State) (c : Call) (output : List ℕ) → Sound s → Ready (after s c output).tables (length s.ram)
unfolding step completed
tables-ready s c output r = decided-ready s.tables (length s.ram) (length output) c r

-- what is known of a call, no accepted start: it is refused and leaves all as it was, or it is done
pub data Stepped (s : State) (c : Call) (output : List ℕ) : Type 0 where
  refused : granted (event s c output).answer ≡ false → after s c output ≡ s → Stepped s c output
  done : (d : Decision) → granted (event s c output).answer ≡ true → Effect s.tables c d → (after s c output).tables ≡ d.tables
      → (after s c output).ram ≡ ram_after s.tables d.tables s.ram d.ram → Stepped s c output

no_start : (a b : Bool) → a && b ≡ false → b ≡ true → a ≡ false
no_start true b f e = absurd (false≢true (sym f ∙ e))
no_start false b f e = refl

-- what a call leaves, as a state
abbrev leaves : Result → State
leaves r = record { tables = r.tables; ram = r.ram }

pub stepped : (s : State) (c : Call) (output : List ℕ) → NotAccepted (event s c output) → Stepped s c output
unfolding step completed
stepped s c output n = go (granted (event s c output).answer) refl
  where
    go : (b : Bool) → granted (event s c output).answer ≡ b → Stepped s c output
    go false e = refused e (ap leaves (refused-changes-nothing s.tables s.ram c output e))
    go true e = done _ e (effect s.tables (length s.ram) (length output) c (no_start (is_start c) _ n e) e) refl refl

-- "each made on the tables and RAM the last one left": they stay good, and of one size
pub step-sound : (s : State) (c : Call) (output : List ℕ) → Sound s → NotAccepted (event s c output) → Sound (after s c output)
step-sound s c output r n = go (stepped s c output n)
  where
    go : Stepped s c output → Sound (after s c output)
    go (refused e q) = subst Sound (sym q) r
    go (done d e m p q) = rw (q, done-length s.ram r m) (tables-ready s c output r)

pub start-sound : (s : State) → Started s → Sound s
unfolding step completed ram_after
start-sound s z =
    let b = z.before in
    let ram = length b.ram in
    let out = length z.output in
    let is = start_is b.tables ram out z.room z.list (start-passed b.tables ram out z.room z.list z.accepted) in
    rw (z.left, is, length-replicate {A = ℕ} ram 0) (rw is at (start-ready b.tables ram out z.room z.list z.accepted))

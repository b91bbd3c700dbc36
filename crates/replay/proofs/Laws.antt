-- What is carried from record to record: good tables with RAM of their size.
use mathlib.Core.Path.{◌≡◌, refl, sym, ap, ◌∙◌}
use mathlib.Core.Bool.{Bool, true}
use mathlib.Core.List.{List, []}
use Prim.Native.Nat.{ℕ, ◌+◌, ◌-◌, ◌≤◌}
use native.Mathlib.Omega.{arith}
use borrow.Author.Tests.{eqb-true}
use lib.Dec.{eqb}
use lib.ListN.{length, drop, length-drop}
use lib.Seq.{length-take-le}
use Rattle.rows.specs.Laws.Lists.{and_right}
use Rattle.kernel.specs.Definition.Tables.{ram_size}
use Rattle.kernel.specs.Definition.Good.{Good, good_test}
use Rattle.kernel.specs.Definition.Step.{Result, ready_test, result_of, completed, step}
use Rattle.kernel.specs.Laws.Ready.{decided-ready}
use Rattle.kernel.specs.declared.Tables.{Tables}
use Rattle.kernel.specs.declared.Outcome.{Outcome}
use Rattle.events.specs.declared.Record.{Record}
use Rattle.events.specs.Definition.Records.{front_of, body_of, rest_of, call_in, step_of}
use Rattle.events.proofs.Walks.{record_fits}
use Rattle.std.specs.Prelude.{Ok}
use Rattle.replay.specs.Definition.Replay.{records, bytes_of, replayed}
use Rattle.replay.specs.Laws.Records.{records-more}

pub tested-ready : (t : Tables) (ram : ℕ) (b : Bool) → b ≡ ready_test t ram → (b ≡ true → Good t) → b ≡ true → Good t × (ram ≡ ram_size t)
tested-ready t ram b e g h = (g h, eqb-true ram (ram_size t) (and_right (good_test t) (eqb ram (ram_size t)) (sym e ∙ h)))

pub stays-ready : (t : Tables) (ram : List ℕ) (kind : ℕ) (body out : List ℕ) (r : Outcome) (ram' out' : List ℕ) → Good t × (length ram ≡ ram_size t)
    → length ram' ≡ length ram → result_of r ram' out' ≡ step_of t ram kind body out → Good r.tables × (length ram' ≡ ram_size r.tables)
unfolding step completed
stays-ready t ram kind body out r ram' out' h l e =
    let k = decided-ready t (length ram) (length out) (call_in kind body) (record { good = h.0; size = h.1 }) in
    rw (l, ap (λ (x : Result). x.tables) e) (k.good, k.size)

-- the replay from `first` has come with m to where `left` is left of the buffer: its records are still to be asked
pub record Goes (first m : Result) (xs left : List ℕ) : Type 0 where
  pub within : length left ≤ length xs
  pub run : replayed m (records left) ≡ replayed first (records xs)
  pub bytes : length xs - length left + bytes_of (records left) ≡ bytes_of (records xs)

pub goes_first : (m : Result) (xs : List ℕ) → Goes m m xs xs
goes_first m xs = record { within = omega arith; run = refl; bytes = omega arith }

pub goes_on : (first m : Result) (xs left : List ℕ) (r : Record) (next : Result) → Goes first m xs left → Ok r ≡ front_of left
    → next ≡ step_of m.tables m.ram r.kind (body_of left r.size) m.output → Goes first next xs (rest_of left r.size)
goes_on first m xs left r next g e is =
    let fits = record_fits left r e in
    let more = records-more left r (sym e) in
    let size = length-take-le r.size (drop 4 left) (omega (arith, fits, length-drop 4 left)) in
    let rest = length-drop (4 + r.size) left in
    record {
      within = omega (arith, rest, g.within);
      run = ap (λ (x : Result). replayed x (records (rest_of left r.size))) is ∙ ap (replayed m) (sym more) ∙ g.run;
      bytes = omega (arith, ap bytes_of more, g.bytes, size, rest, fits, g.within);
    }

pub goes_last : (first m : Result) (xs left : List ℕ) → Goes first m xs left → records left ≡ [] → (m ≡ replayed first (records xs)) × (length xs - length left ≡ bytes_of (records xs))
goes_last first m xs left g none = (ap (replayed m) (sym none) ∙ g.run, omega (arith, ap bytes_of none, g.bytes))

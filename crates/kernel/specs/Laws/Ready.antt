-- Good tables, lent RAM of their size, are never refused for the tables, and a call leaves them so.
use Rattle.std.specs.Prelude.{◌≡◌, refl, Bool, true, false, cond, not, ◌&&◌, ◌||◌, List, ℕ, ◌*◌, leb, eqb, length}
use Rattle.std.proofs.Common.{ap, sym, ◌∙◌, arith, eq-eqb, eqb-true}
use Rattle.std.proofs.lemmas.Bool.{false≢true}
use Rattle.rows.specs.Definition.Lists.{padded}
use Rattle.rows.specs.Laws.Lists.{and_left, and_right}
use Rattle.rows.specs.Definition.Tests.{list_test}
use Rattle.kernel.specs.Definition.Tables.{SEGMENT, ram_size}
use Rattle.kernel.specs.Definition.Start.{start_test, started}
use Rattle.kernel.specs.Definition.Bytes.{nothing}
use Rattle.kernel.specs.Definition.Answers.{number_of, granted, gives, Decision, ◌changing◌}
use Rattle.kernel.specs.Definition.Calls.{Call, start, is_start}
use Rattle.kernel.specs.Definition.Good.{Good, Sized, good_test}
use Rattle.kernel.specs.Definition.Step.{ready_test, heard, decided}
use Rattle.kernel.specs.Laws.Good.{good-says}
use Rattle.kernel.specs.Laws.KeptReset.{start-good}
use Rattle.kernel.specs.Laws.Effects.{Verdict, bars, drives, refuses, starts, does, verdict}
use Rattle.kernel.specs.Laws.Changes.{effect-listed}
use Rattle.kernel.specs.Laws.Keeps.{decided-keeps, start-passed, start_is}
use Rattle.kernel.specs.declared.Tables.{Tables}
use Rattle.kernel.specs.declared.Answer.TheVariants.{BadTables}

-- good tables, and as much RAM lent as they say
pub record Ready (t : Tables) (ram : ℕ) : Type 0 where
  pub good : Good t
  pub size : ram ≡ ram_size t

pub ready-test : {t : Tables} {ram : ℕ} → Ready t ram → ready_test t ram ≡ true
ready-test {t} {ram} r = rw ((good-says t r.good.sized).make r.good, eq-eqb ram (ram_size t) r.size)

heard-by : (starting : Bool) (t : Tables) (d : Decision) → cond (not (starting || true)) (gives BadTables t changing nothing) d ≡ d
heard-by true t d = refl
heard-by false t d = refl

-- every call is heard
pub ready-heard : (t : Tables) (ram output : ℕ) (c : Call) → Ready t ram → decided t ram output c ≡ heard t ram output c
unfolding decided
ready-heard t ram output c r = rw (ready-test r) (heard-by (is_start c) t (heard t ram output c))

never : {t : Tables} {ram : ℕ} {c : Call} {d : Decision} → Ready t ram → Verdict t ram c d → number_of d.answer ≡ 1 → ⊥
never r (bars e) q = false≢true (sym e ∙ ready-test r)
never r (drives h) q = omega arith
never r (refuses answer p) q = omega (arith, p.high)
never r (starts e) q = omega arith
never r (does d e) q = false≢true (rw q at d)

pub never-tables : (t : Tables) (ram output : ℕ) (c : Call) → Ready t ram → (decided t ram output c).answer ≡ BadTables → ⊥
never-tables t ram output c r e = never r (verdict t ram output c) (ap number_of e)

-- and a call that is done, but for a start, found them so
pub granted-ready : (t : Tables) (ram output : ℕ) (c : Call) → Sized t → is_start c ≡ false → granted (decided t ram output c).answer ≡ true → Ready t ram
unfolding decided
granted-ready t ram output c sized s g = by (ready_test t ram) refl (rw s at g)
  where
    by : (ready : Bool) → ready_test t ram ≡ ready → granted (cond (not ready) (gives BadTables t changing nothing) (heard t ram output c)).answer ≡ true → Ready t ram
    by true e h = record {
      good = (good-says t sized).yes (and_left (good_test t) (eqb ram (ram_size t)) e);
      size = eqb-true ram (ram_size t) (and_right (good_test t) (eqb ram (ram_size t)) e);
    }
    by false e h = absurd (false≢true h)

started-size : (ram room : ℕ) (list : List ℕ) → start_test ram room list ≡ true → ram ≡ ram_size (started room list)
unfolding started
started-size ram room list e =
    eqb-true ram (SEGMENT * length list) (and_right (list_test (padded 32 list) (length list) && leb 256 room && leb room 16128) _ e)

-- how many segments there are stays, but for a start
verdict-size : {t : Tables} {ram : ℕ} {c : Call} {d : Decision} → ram ≡ ram_size t → Verdict t ram c d → ram ≡ ram_size d.tables
verdict-size s (bars e) = s
verdict-size s (drives h) = s
verdict-size s (refuses answer p) = s
verdict-size {ram = ram} s (starts {room} {list} e) = started-size ram room list e
verdict-size s (does d e) = rw (effect-listed e).segments s

pub decided-ready : (t : Tables) (ram output : ℕ) (c : Call) → Ready t ram → Ready (decided t ram output c).tables ram
decided-ready t ram output c r = record {
  good = decided-keeps t ram output c r.good;
  size = verdict-size r.size (verdict t ram output c);
}

-- a done start makes them so, whatever the tables before
pub start-ready : (t : Tables) (ram output room : ℕ) (list : List ℕ) → granted (decided t ram output (start room list)).answer ≡ true
    → Ready (decided t ram output (start room list)).tables ram
start-ready t ram output room list d =
    let e = start-passed t ram output room list d in
    rw (start_is t ram output room list e) (record { good = start-good ram room list e; size = started-size ram room list e })

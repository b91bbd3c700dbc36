-- What the listing answers before a start is accepted, and to a start that it can't serve.
use Rattle.std.specs.Prelude.{◌≡◌, refl, Bool, true, false, ◌&&◌, List, ℕ, ◌-◌, ◌*◌, ◌<◌, min, length, take, drop}
use Rattle.std.proofs.Common.{ap, arith, lt-ltb, le-ltb, ne_eqb, length-take, length-drop}
use Rattle.kernel.specs.Definition.Bytes.{nothing}
use Rattle.kernel.specs.Definition.Answers.{granted, gives, Decision, ◌changing◌}
use Rattle.kernel.specs.Definition.Calls.{Call, is_start, start}
use Rattle.kernel.specs.Definition.Step.{decided, completed, step}
use Rattle.kernel.specs.Laws.Refused.{refused-stays}
use Rattle.kernel.specs.declared.Tables.{Tables}
use Rattle.kernel.specs.declared.Answer.TheVariants.{BadTables, BadCall, BadStart}
use Rattle.events.specs.Definition.Records.{u16_at, start_in, call_in}
use Rattle.events.specs.Laws.Bodies.{no_start}
use Rattle.kernel.specs.Definition.Start.{no_tables}
use Rattle.listing.specs.Definition.Log.{lent_to, log_step}

barred : (ram output : ℕ) (c : Call) → is_start c ≡ false → decided no_tables ram output c ≡ gives BadTables no_tables changing nothing
unfolding decided no_tables
barred ram output c e = rw e

-- "Before an accepted start every other kind answers 1."
pub before-start : (ram out : List ℕ) (kind : ℕ) (body : List ℕ) → (kind ≡ 256 → ⊥) → (log_step no_tables ram out kind body).answer ≡ BadTables
unfolding log_step step completed
before-start ram out kind body h = rw (barred _ (length out) (call_in kind body) (no_start kind body h))

-- a record that is not done leaves the tables: there is no accepted start until one is done
pub refused-leaves : (t : Tables) (ram out : List ℕ) (kind : ℕ) (body : List ℕ) → granted (log_step t ram out kind body).answer ≡ false
    → (log_step t ram out kind body).tables ≡ t
unfolding log_step step completed
refused-leaves t ram out kind body f = ap (λ (d : Decision). d.tables) (refused-stays t _ (length out) (call_in kind body) f)

-- kind 256 with a body short of R answers 2
pub short-answers : (t : Tables) (ram out body : List ℕ) → length body < 2 → (log_step t ram out 256 body).answer ≡ BadCall
unfolding log_step step completed decided call_in start_in
short-answers t ram out body h = rw (lt-ltb (length body) 2 h)

no-and : (b : Bool) → b && false ≡ false
no-and true = refl
no-and false = refl

wrong-ram : (t : Tables) (ram output room : ℕ) (list : List ℕ) → (ram ≡ 16384 * length list → ⊥) → decided t ram output (start room list) ≡ gives BadStart t changing nothing
unfolding decided
wrong-ram t ram output room list h = rw (ne_eqb ram (16384 * length list) h, no-and)

too_few : (ram : List ℕ) (n : ℕ) → 4 < n → length (take (16384 * min 4 n) ram) ≡ 16384 * n → ⊥
too_few ram n h e = omega (arith, rw length-take at e)

-- "A start of more than four segments answers 16."
pub long-answers : (t : Tables) (ram out body : List ℕ) → 6 < length body → (log_step t ram out 256 body).answer ≡ BadStart
unfolding log_step step completed call_in start_in lent_to
long-answers t ram out body h =
    let n = length body - 2 in
    let e : length (drop 2 body) ≡ n = length-drop 2 body in
    let lent = length (take (16384 * min 4 n) ram) in
    rw (le-ltb (length body) 2 (omega arith), wrong-ram t lent (length out) (u16_at body 0) (drop 2 body) (rw e (too_few ram n (omega arith))))

-- Every call keeps good tables, and a done start gives them whatever the tables before.
use Rattle.std.specs.Prelude.{◌≡◌, refl, Bool, true, false, cond, not, List, [], ◌∷◌, ℕ, length}
use Rattle.std.proofs.Common.{inl, inr, arith}
use Rattle.names.specs.Definition.Words.{word_of}
use Rattle.rows.specs.Definition.Lists.{up_to}
use Rattle.kernel.specs.Definition.Tables.{row_of, channel_at}
use Rattle.kernel.specs.Definition.Devices.{device_named}
use Rattle.kernel.specs.Definition.Start.{start_test, started}
use Rattle.kernel.specs.Definition.Bytes.{nothing, zeroed}
use Rattle.kernel.specs.Definition.Answers.{granted, gives, Decision, ◌changing◌}
use Rattle.kernel.specs.Definition.Calls.{Call, start, on_start}
use Rattle.kernel.specs.Definition.Good.{Good}
use Rattle.kernel.specs.Definition.Step.{heard, decided, completed, step}
use Rattle.rows.specs.Laws.ChannelRows.{place_none}
use Rattle.kernel.specs.Laws.Arrays.{link-default, word_good}
use Rattle.kernel.specs.Laws.Body.{body}
use Rattle.kernel.specs.Laws.Room.{shares-yes, shares-no}
use Rattle.kernel.specs.Laws.KeptLine.{opening-keeps, closing-keeps}
use Rattle.kernel.specs.Laws.KeptSegments.{class-outside, granting-keeps, sharing-keeps, freeing-shared, freeing-outside, bounding-keeps}
use Rattle.kernel.specs.Laws.KeptNames.{linking-keeps, naming-keeps}
use Rattle.kernel.specs.Laws.KeptReset.{resetting-keeps, start-good}
use Rattle.kernel.specs.Laws.Effects.{Effect, resets, opens, closes, reads, writes, names, counts, links, tells, bounds, grants, shares, frees, stores, loads, loads-module, Verdict, bars, drives, refuses, starts, does, verdict}
use Rattle.kernel.specs.declared.Tables.{Tables}
use Rattle.kernel.specs.declared.Answer.TheVariants.{Done, BadStart}

effect-keeps : {t : Tables} {c : Call} {d : Decision} → Good t → Effect t c d → Good d.tables
effect-keeps {t} g (resets {flags}) = resetting-keeps t flags g
effect-keeps {t} g (opens c e m low new device few fits) =
    opening-keeps t c g few (omega arith) device
    (place_none t.channels c.number t.opened (omega (arith, g.sized.channels, g.channels.most)) new) fits
effect-keeps {t} g (closes {channel} h) = closing-keeps t (channel_at t channel) g h
effect-keeps g (reads h) = g
effect-keeps g (writes h l) = g
effect-keeps {t} g (names {unit} {name} h) = naming-keeps t (word_of name) (length name) unit g (word_good name h) h.0
effect-keeps g counts = g
effect-keeps {t} g (links {m} {name} h few r fits) =
    linking-keeps t m (device_named name) g few (word_good name (link-default name h)) h.0 refl r fits
effect-keeps g tells = g
effect-keeps {t} g (bounds {value} s h) = bounding-keeps t value g (shares-yes t (body t g) s) h
effect-keeps {t} g (grants {caller} h) = granting-keeps t caller g h
effect-keeps {t} g (shares s) = sharing-keeps t g (shares-no t (body t g) s)
effect-keeps {t} g (frees {caller} {segment} h (inl e)) = freeing-outside t (row_of t segment) g h (rw e (class-outside caller))
effect-keeps {t} g (frees {caller} {segment} h (inr e)) = freeing-shared t (row_of t segment) g h e
effect-keeps g (stores m h) = g
effect-keeps g (loads m h) = g
effect-keeps g (loads-module b m h) = g

verdict-keeps : {t : Tables} {ram : ℕ} {c : Call} {d : Decision} → Good t → Verdict t ram c d → Good d.tables
verdict-keeps g (bars e) = g
verdict-keeps g (drives h) = g
verdict-keeps g (refuses answer p) = g
verdict-keeps {ram = ram} g (starts {room} {list} e) = start-good ram room list e
verdict-keeps g (does d e) = effect-keeps g e

-- a call on good tables leaves good tables
pub decided-keeps : (t : Tables) (ram output : ℕ) (c : Call) → Good t → Good (decided t ram output c).tables
decided-keeps t ram output c g = verdict-keeps g (verdict t ram output c)

pub step_keeps : (t : Tables) (ram : List ℕ) (c : Call) (output : List ℕ) → Good t → Good (step t ram c output).tables
unfolding step completed
step_keeps t ram c output g = decided-keeps t (length ram) (length output) c g

-- a start is done exactly if what it is given passes its test
pub start-passed : (t : Tables) (ram output room : ℕ) (list : List ℕ) → granted (decided t ram output (start room list)).answer ≡ true
    → start_test ram room list ≡ true
unfolding decided heard on_start
start-passed t ram output room list d = go (start_test ram room list) d
  where
    go : (right : Bool) → granted (cond (not right) (gives BadStart t changing nothing) (gives (Done (length list) room) (started room list) changing zeroed)).answer ≡ true → right ≡ true
    go true e = refl
    go false e = e

pub start_is : (t : Tables) (ram output room : ℕ) (list : List ℕ) → start_test ram room list ≡ true
    → decided t ram output (start room list) ≡ gives (Done (length list) room) (started room list) changing zeroed
unfolding decided heard on_start
start_is t ram output room list e = rw e

-- a done start leaves good tables, whatever the tables before
pub start-done : (t : Tables) (ram output room : ℕ) (list : List ℕ) → granted (decided t ram output (start room list)).answer ≡ true
    → Good (decided t ram output (start room list)).tables
start-done t ram output room list d =
    let e = start-passed t ram output room list d in
    rw (start_is t ram output room list e) (start-good ram room list e)

-- there are good tables: those of the ten cases
pub good-tables : Good (started 11074 (252 ∷ 253 ∷ 254 ∷ 255 ∷ []))
unfolding up_to
good-tables = start-good 65536 11074 (252 ∷ 253 ∷ 254 ∷ 255 ∷ []) refl

-- The branches of open, as the code takes them.
use mathlib.Core.Path.{◌≡◌, sym, ap, ◌∙◌}
use Rattle.std.specs.Prelude.{◌≢◌}
use mathlib.Core.Bool.{Bool, true, false}
use mathlib.Core.List.{List}
use Prim.Native.Nat.{ℕ, ◌+◌, ◌-◌, ◌≤◌, ◌<◌}
use native.Mathlib.Omega.{arith}
use borrow.Author.Tests.{le-leb, lt-leb, ne_eqb}
use lib.Dec.{ltb}
use lib.ListN.{take, set}
use Rattle.rows.specs.Definition.Channels.{new_channel, found_at}
use Rattle.rows.specs.Laws.Channels.{found-at, found_nowhere}
use Rattle.rows.specs.Definition.Sizes.{chain_length}
use Rattle.rows.specs.declared.Channel.{Channel}
use Rattle.names.specs.Definition.Read.{reading}
use Rattle.names.specs.Definition.Parts.{parts_of}
use Rattle.names.specs.Laws.Places.{parts-refused}
use Rattle.names.specs.declared.Parts.{Parts}
use Rattle.std.specs.Prelude.{Option, Some, None}
use Rattle.std.specs.Option.{is_some}
use Rattle.line.specs.declared.Line.{Line}
use Rattle.line.specs.Within.Chains.{Chain}
use Rattle.line.specs.Definition.Line.{after_open}
use Rattle.kernel.specs.Definition.Tables.{ram_size, channel_at, with_channels}
use Rattle.kernel.specs.Definition.Good.{Good}
use Rattle.kernel.specs.Definition.Line.{total_of, grown, room_for, opening}
use Rattle.kernel.specs.Definition.Names.{wanted_by, device_for}
use Rattle.kernel.specs.Definition.Bytes.{nothing, appended}
use Rattle.kernel.specs.Definition.Answers.{gives, Decision, ◌changing◌}
use Rattle.kernel.specs.Definition.Calls.{on_open, on_open_named, on_open_to}
use Rattle.kernel.specs.Definition.Step.{Result, completed, result_of}
use Rattle.kernel.specs.Within.{New, HasRoom, line_of, opened_at, on_open_row}
use Rattle.kernel.specs.Laws.Opens.{opening-room, opening-held, opening-chain}
use Rattle.kernel.specs.Laws.Wants.{meant}
use Rattle.kernel.specs.declared.Tables.{Tables}
use Rattle.kernel.specs.declared.Wanted.{Wanted}
use Rattle.kernel.specs.declared.Outcome.{Outcome}
use Rattle.kernel.proofs.Spans.{is_found}
use Rattle.kernel.specs.declared.Answer.TheVariants.{Done, NoChannel, Exists, BadName, NoDevice, Driver, Full, NoRoom}

-- what a part of open decides is what all of it does
pub onward : (t : Tables) (d e : Decision) (r : Result) (ram out : List ℕ) → e ≡ d → r ≡ completed t d ram out → r ≡ completed t e ram out
onward t d e r ram out q h = rw q h

-- an open channel, as the code asks for it
pub open_now : (t : Tables) (channel : ℕ) (place : Option ℕ) (found : Bool) → place ≡ opened_at t channel → found ≡ is_some place → found ≡ ltb (channel_at t channel) t.opened
open_now t channel place found e f = f ∙ rw e (is_found (channel_at t channel) t.opened)

-- the row appended
module _ (t : Tables) (c : Channel) (total size long held more : ℕ) (b : total ≡ total_of t) (d : size ≡ c.n)
    (e : long ≡ chain_length t.room (total + (16 + size))) (f : held ≡ t.held) (m : more ≡ long - held) where
  growth : more ≡ chain_length t.room (total_of t + (16 + c.n)) - t.held
  growth = rw (m, f, e, d, b)

  pub append-held : Good t → New t c → HasRoom t c → t.held + more ≤ 32
  append-held g new fits = rw growth (opening-held t c g new fits)

  pub append-made : (count : ℕ) (after : Tables) → count ≡ t.opened → after ≡ grown more (with_channels t (t.opened + 1) (set t.channels count c)) → after ≡ opening t c
  unfolding opening
  append-made count after a h = rw (h, growth, a)

-- the row, against the number of channels and the room
module _ (t : Tables) (c : Channel) where
  pub row-full : 32 ≤ t.opened → on_open_row t c ≡ gives Full t changing nothing
  unfolding on_open_row
  row-full h = rw (le-leb _ _ h)

  module _ (total size : ℕ) (ok : Bool) (few : t.opened < 32) (b : total ≡ total_of t) (d : size ≡ c.n) (r : ok ≡ room_for t t.room (total + (16 + size))) where
    room-is : room_for t t.room (total_of t + (16 + c.n)) ≡ ok
    room-is = rw (r, d, b)

    pub row-none : false ≡ ok → on_open_row t c ≡ gives NoRoom t changing nothing
    unfolding on_open_row
    row-none n = rw (lt-leb _ _ few, room-is, ← n)

    pub row_fits : true ≡ ok → HasRoom t c
    row_fits n = record { few = few; room = room-is ∙ sym n }

  module _ (g : Good t) (new : New t c) (fits : HasRoom t c) (next : Tables) (l : Line) (e : next ≡ opening t c) (w : l ≡ line_of next) (total : ℕ) (b : total ≡ total_of t) where
    room-kept : l.room ≡ t.room
    room-kept = rw (w, e) (opening-room t c g new fits)

    pub row-chain : (size : ℕ) → size ≡ ram_size t → Chain l.chain l.room (total + 16 + c.n) size
    row-chain size d =
        let z : total + 16 + c.n ≡ total_of t + (16 + c.n) = omega arith in
        rw (z, room-kept, w, e) (opening-chain t c g new fits size d)

    row-answer : on_open_row t c ≡ gives (Done c.device c.unit) next changing appended c
    unfolding on_open_row
    row-answer = rw (lt-leb _ _ fits.few, fits.room, e)

    pub row_done : (ram after : List ℕ) (unit : ℕ) (o : Outcome) → after ≡ after_open l.chain l.room ram total c.number c.device c.unit c.n → unit ≡ c.unit
        → o ≡ gives (Done c.device unit) next → (out : List ℕ) → result_of o after out ≡ completed t (on_open_row t c) ram out
    unfolding completed
    row_done ram after unit o h u q out = rw (row-answer, q, u, h, room-kept, w, b)

-- the device, and the status of its driver
module _ (t : Tables) (channel driver n : ℕ) (w : Wanted) where
  pub to_none : None ≡ found_at (device_for t w) t.known → on_open_to t channel driver n w ≡ gives NoDevice t changing nothing
  unfolding on_open_to
  to_none e = rw (le-leb _ _ (found_nowhere (device_for t w) t.known (sym e)))

  module _ (row : ℕ) (e : Some row ≡ found_at (device_for t w) t.known) where
    row_is : (device_for t w ≡ row) × (row < t.known)
    row_is = let (here, among) = found-at (device_for t w) t.known row (sym e) in (here, rw here at among)

    pub to_driver : driver ≢ 0 → on_open_to t channel driver n w ≡ gives (Driver driver) t changing nothing
    unfolding on_open_to
    to_driver z = rw (row_is.0, lt-leb _ _ row_is.1, ne_eqb driver 0 z)

    pub to_row : driver ≡ 0 → on_open_to t channel driver n w ≡ on_open_row t (new_channel channel row w.unit n)
    unfolding on_open_to on_open_row
    to_row z = rw (row_is.0, lt-leb _ _ row_is.1, z)

    pub to_new : channel < 255 → t.opened ≤ channel_at t channel → New t (new_channel channel row w.unit n)
    to_new c a = record { number = c; device = row_is.1; absent = a }

-- the string
module _ (t : Tables) (channel driver n : ℕ) (s : List ℕ) where
  pub named_none : None ≡ parts_of (reading s) → on_open_named t channel driver n (reading s) ≡ gives BadName t changing nothing
  unfolding on_open_named
  named_none e = rw (parts-refused (reading s) (sym e))

  pub named_to : (parts : Parts) (w : Wanted) → Some parts ≡ parts_of (reading s) → w ≡ wanted_by t (take parts.letters s) parts.unit
      → on_open_named t channel driver n (reading s) ≡ on_open_to t channel driver n w
  unfolding on_open_named
  named_to parts w e q =
      let (r, h, k) = meant t s parts (sym e) in
      rw h (ap (λ (v : Wanted). on_open_to t channel driver n v) (sym (q ∙ k)))

-- the channel
module _ (t : Tables) (channel driver n : ℕ) (s : List ℕ) where
  pub good_none : channel ≡ 255 → on_open t channel driver n s ≡ gives NoChannel t changing nothing
  unfolding on_open
  good_none e = rw e

  module _ (some : channel < 255) (found : Bool) (f : found ≡ ltb (channel_at t channel) t.opened) where
    pub good-exists : found ≡ true → on_open t channel driver n s ≡ gives Exists t changing nothing
    unfolding on_open
    good-exists e = rw (lt-leb 255 channel some, sym f ∙ e)

    pub good-named : found ≡ false → on_open t channel driver n s ≡ on_open_named t channel driver n (reading s)
    unfolding on_open
    good-named e = rw (lt-leb 255 channel some, sym f ∙ e)

-- What an open, a close and a link make of the channels, the room and the chain, and that no call but a start changes the list of segments.
use Rattle.std.specs.Prelude.{◌≡◌, refl, Bool, true, false, cond, ◌||◌, ℕ, ◌+◌, ◌-◌, ◌<◌, get_or, set, replicate}
use Rattle.std.proofs.Math.Decide.{ℕ_discrete}
use Rattle.std.proofs.Common.{arith, eq-eqb, ne_eqb, get_or-set_same, get_or-set_other}
use Rattle.rows.specs.Definition.Lists.{at, without}
use Rattle.rows.specs.Definition.Classes.{SHARED}
use Rattle.rows.specs.Definition.Channels.{zero_channel}
use Rattle.rows.specs.Definition.Devices.{added}
use Rattle.rows.specs.Laws.ChannelRows.{sum-set, from, without_at}
use Rattle.rows.specs.Definition.Sizes.{chain_length}
use Rattle.rows.specs.declared.Channel.{Channel}
use Rattle.rows.specs.declared.Device.{Device}
use Rattle.kernel.specs.Definition.Tables.{class_at, row_of, with_channels, with_devices}
use Rattle.kernel.specs.Definition.Line.{total_of, opening, closing}
use Rattle.kernel.specs.Definition.Segments.{granting, sharing_last, freeing, bounding}
use Rattle.kernel.specs.Definition.Devices.{linking, device_named}
use Rattle.kernel.specs.Definition.Reset.{bit4, bit5, bit6, emptying, restoring, releasing, resetting}
use Rattle.kernel.specs.Definition.Answers.{Decision}
use Rattle.kernel.specs.Definition.Calls.{Call}
use Rattle.kernel.specs.Definition.Good.{Good}
use Rattle.kernel.specs.Laws.Grow.{grown-rest}
use Rattle.kernel.specs.Laws.Shrink.{shrunk-rest}
use Rattle.kernel.specs.Laws.Effects.{Effect, resets, opens, closes, reads, writes, names, counts, links, tells, bounds, grants, shares, frees, stores, loads, loads-module}
use Rattle.kernel.specs.declared.Tables.{Tables}

-- the list of segments stays
pub record Listed (t u : Tables) : Type 0 where
  pub segments : u.segments ≡ t.segments
  pub list : u.list ≡ t.list

-- "Open appends a record"
pub record Opened (t u : Tables) (c : Channel) : Type 0 where
  pub listed : Listed t u
  pub room : u.room ≡ t.room
  pub opened : u.opened ≡ t.opened + 1
  pub channels : u.channels ≡ set t.channels t.opened c
  pub chain : (i : ℕ) → i < t.held → at u.chain i ≡ at t.chain i

pub opening-opens : (t : Tables) (c : Channel) → Opened t (opening t c) c
unfolding opening
opening-opens t c =
    let v = with_channels t (t.opened + 1) (set t.channels t.opened c) in
    let n = chain_length t.room (total_of t + (16 + c.n)) - t.held in
    let r = grown-rest n v in
    let k = r.keeps in
    record { listed = record { segments = k.segments; list = k.list }; room = k.room; opened = k.opened; channels = k.channels; chain = r.chain }

pub opens_row : {t u : Tables} {c : Channel} → Good t → Opened t u c → t.opened < 32 → get_or u.channels t.opened zero_channel ≡ c
opens_row {t} {u} {c} g o few = rw o.channels (get_or-set_same t.channels t.opened c zero_channel (omega (arith, g.sized.channels)))

pub opens-old : {t u : Tables} {c : Channel} → Opened t u c → (i : ℕ) → i < t.opened → get_or u.channels i zero_channel ≡ get_or t.channels i zero_channel
opens-old {t} {u} {c} o i h = rw o.channels (get_or-set_other t.channels t.opened i c zero_channel (λ e. omega arith))

pub opens-total : {t u : Tables} {c : Channel} → Good t → Opened t u c → t.opened < 32 → total_of u ≡ total_of t + 16 + c.n
opens-total {t} {u} {c} g o few =
    let e : total_of u ≡ total_of t + (16 + c.n) = rw (o.opened, o.channels) (sum-set t.channels t.opened c (omega (arith, g.sized.channels))) in
    omega arith

-- "Close removes one": the row j
pub record Closed (t u : Tables) (j : ℕ) : Type 0 where
  pub listed : Listed t u
  pub room : u.room ≡ t.room
  pub opened : u.opened ≡ t.opened - 1
  pub channels : u.channels ≡ without j t.channels zero_channel
  pub chain : (i : ℕ) → i < u.held → at u.chain i ≡ at t.chain i

pub closing-closes : (t : Tables) (j : ℕ) → Closed t (closing t j) j
unfolding closing
closing-closes t j =
    let v = with_channels t (t.opened - 1) (without j t.channels zero_channel) in
    let n = t.held - chain_length t.room (total_of v) in
    let r = shrunk-rest n v in
    let k = r.keeps in
    record { listed = record { segments = k.segments; list = k.list }; room = k.room; opened = k.opened; channels = k.channels; chain = r.chain }

pub closes-row : {t u : Tables} {j : ℕ} → Good t → Closed t u j → j < t.opened → (i : ℕ) → i < u.opened
    → get_or u.channels i zero_channel ≡ get_or t.channels (from j i) zero_channel
closes-row {t} {u} {j} g o h i a =
    let n = g.sized.channels in
    let most = g.channels.most in
    let less : i < t.opened - 1 = rw o.opened at a in
    rw o.channels (without_at zero_channel zero_channel j t.channels i (omega arith) (omega arith))

-- "R falls by m .. It appends any further chain segments"
pub record Linked (t u : Tables) (m : ℕ) : Type 0 where
  pub listed : Listed t u
  pub room : u.room ≡ t.room - m
  pub opened : u.opened ≡ t.opened
  pub channels : u.channels ≡ t.channels
  pub chain : (i : ℕ) → i < t.held → at u.chain i ≡ at t.chain i

pub linking-links : (t : Tables) (m : ℕ) (d : Device) → Linked t (linking t m d) m
unfolding linking
linking-links t m d =
    let v = with_devices t (t.room - m) (t.known + 1) (added t.devices t.known d) in
    let n = chain_length (t.room - m) (total_of t) - t.held in
    let r = grown-rest n v in
    let k = r.keeps in
    record { listed = record { segments = k.segments; list = k.list }; room = k.room; opened = k.opened; channels = k.channels; chain = r.chain }

emptying-listed : (t : Tables) → Listed t (emptying t)
unfolding emptying
emptying-listed t = let k = (shrunk-rest (t.held - 1) (with_channels t 0 (replicate 32 zero_channel))).keeps in record { segments = k.segments; list = k.list }

cond-listed : {t : Tables} (b : Bool) (u v : Tables) → Listed t u → Listed t v → Listed t (cond b u v)
cond-listed true u v k l = k
cond-listed false u v k l = l

resetting-listed : (t : Tables) (flags : ℕ) → Listed t (resetting t flags)
unfolding resetting restoring releasing
resetting-listed t flags =
    let u = cond (bit4 flags || bit5 flags) (emptying t) t in
    let v = cond (bit5 flags) (restoring u) u in
    let k : Listed t u = cond-listed (bit4 flags || bit5 flags) (emptying t) t (emptying-listed t) (record { segments = refl; list = refl }) in
    let l : Listed t v = cond-listed (bit5 flags) (restoring u) u (record { segments = k.segments; list = k.list }) k in
    cond-listed (bit6 flags) (releasing v) v (record { segments = l.segments; list = l.list }) l

freeing-listed : (t : Tables) (row : ℕ) → Listed t (freeing t row)
unfolding freeing
freeing-listed t row =
    elim (ℕ_discrete (class_at t row) SHARED) [
      | yes q ↦ rw (eq-eqb _ _ q) (record { segments = refl; list = refl })
      | no q ↦ rw (ne_eqb _ _ q) (record { segments = refl; list = refl })
    ]

-- no call but a start changes the list
pub effect-listed : {t : Tables} {c : Call} {d : Decision} → Effect t c d → Listed t d.tables
unfolding granting sharing_last bounding
effect-listed {t} (resets {flags}) = resetting-listed t flags
effect-listed {t} (opens c e m low new device few fits) = (opening-opens t c).listed
effect-listed {t} (closes {channel} h) = (closing-closes t _).listed
effect-listed (reads h) = record { segments = refl; list = refl }
effect-listed (writes h l) = record { segments = refl; list = refl }
effect-listed (names h) = record { segments = refl; list = refl }
effect-listed counts = record { segments = refl; list = refl }
effect-listed {t} (links {m} {name} h few r fits) = (linking-links t m (device_named name)).listed
effect-listed tells = record { segments = refl; list = refl }
effect-listed (bounds s h) = record { segments = refl; list = refl }
effect-listed (grants h) = record { segments = refl; list = refl }
effect-listed (shares s) = record { segments = refl; list = refl }
effect-listed {t} (frees {caller} {segment} h o) = freeing-listed t (row_of t segment)
effect-listed (stores m h) = record { segments = refl; list = refl }
effect-listed (loads m h) = record { segments = refl; list = refl }
effect-listed (loads-module b m h) = record { segments = refl; list = refl }

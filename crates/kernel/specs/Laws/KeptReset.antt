-- Reset keeps good tables, and start gives them.
use Rattle.std.specs.Prelude.{◌≡◌, refl, Bool, true, false, cond, ◌||◌, List, map, ℕ, ◌-◌, ◌*◌, ◌≤◌, length, replicate}
use Rattle.std.proofs.Common.{sym, ◌∙◌, not-suc-le-zero, arith}
use Rattle.std.proofs.lemmas.List.{length-map, length-replicate}
use Rattle.rows.specs.Definition.Lists.{padded}
use Rattle.rows.specs.Definition.Classes.{released}
use Rattle.rows.specs.Definition.Channels.{zero_channel}
use Rattle.rows.specs.Definition.Devices.{built_in}
use Rattle.rows.specs.Definition.Sizes.{chain_length}
use Rattle.rows.specs.Laws.Sizes.{length-mono, length-low, edge-low, edge-falls}
use Rattle.rows.specs.Definition.Good.{ListGood, ChannelsGood, RoomGood, DefaultGood}
use Rattle.rows.specs.Laws.Says.{says-and, says-le, says_eq}
use Rattle.rows.specs.Laws.Good.{list-says}
use Rattle.rows.specs.Laws.ClassRows.{released-classes, released-chain, fresh-classes, fresh-chain, fresh-length, zeros-at}
use Rattle.rows.specs.Laws.ChannelRows.{channels-none, no-channels}
use Rattle.rows.specs.Laws.DeviceRows.{built}
use Rattle.rows.specs.declared.Channel.{Channel}
use Rattle.kernel.specs.Definition.Tables.{SEGMENT, with_channels}
use Rattle.kernel.specs.Definition.Line.{total_of}
use Rattle.kernel.specs.Definition.Reset.{bit4, bit5, bit6, emptying, restoring, releasing, resetting}
use Rattle.kernel.specs.Definition.Start.{start_test, started}
use Rattle.kernel.specs.Definition.Good.{Good}
use Rattle.kernel.specs.Laws.Arrays.{length-padded}
use Rattle.kernel.specs.Laws.Body.{body, whole, body-segments, body-channels, body-devices}
use Rattle.kernel.specs.Laws.Shrink.{cut, shrunk-rest}
use Rattle.kernel.specs.declared.Tables.{Tables}

-- bit 4
pub emptying-keeps : (t : Tables) → Good t → Good (emptying t)
unfolding emptying
emptying-keeps t g =
    let cs : List Channel = replicate 32 zero_channel in
    let low : chain_length t.room 0 ≡ 1 = length-low t.room 0 (omega arith) in
    rw low at (cut (with_channels t 0 cs) (body-channels t 0 cs (length-replicate 32 zero_channel) (no-channels t.known) (body t g))
    (omega (arith, g.line, length-mono t.room t.room 0 (total_of t) (omega arith) (omega arith)))
    (λ q. omega (arith, g.user.most, edge-falls t.room 0 (total_of t) (omega arith) (q ∙ g.line))))

pub emptying-opened : (t : Tables) → (emptying t).opened ≡ 0
unfolding emptying
emptying-opened t = (shrunk-rest (t.held - 1) (with_channels t 0 (replicate 32 zero_channel))).keeps.opened

-- bit 5, once the channels are closed
pub restoring-keeps : (t : Tables) → Good t → t.opened ≡ 0 → Good (restoring t)
unfolding restoring
restoring-keeps t g e =
    let z : total_of t ≡ 0 = rw e in
    let h : t.held ≡ 1 = g.line ∙ rw z (length-low t.room 0 (omega arith)) in
    let u : t.user ≤ t.room = omega (arith, (rw (z, edge-low t.room 0 (omega arith)) at g.user.most)) in
    let c : ChannelsGood t.channels t.opened 3 = rw e (channels-none 3 t.channels (λ i k. g.channels.rest i (omega arith) k)) in
    whole _ (body-devices t t.cold 3 built_in refl (record { least = omega (arith, g.room.least, g.room.most); most = omega arith; top = g.room.top }) built c (body t g))
    (rw z (h ∙ sym (length-low t.cold 0 (omega arith))))
    (rw (z, edge-low t.cold 0 (omega arith)) (omega (arith, g.room.most)))

-- bit 6
pub releasing-keeps : (t : Tables) → Good t → Good (releasing t)
unfolding releasing
releasing-keeps t g =
    let cs = t.classes in
    whole _ (body-segments t (map released cs) t.held t.chain 0 (length-map cs released ∙ g.sized.classes) g.sized.chain
    (released-classes t.segments cs g.classes) (released-chain t.segments cs t.chain t.held g.chain) (λ _. refl) (body t g))
    g.line (omega arith)

-- the three flags by clauses: bit 5 finds the channels closed
flags-keep : (t : Tables) (four five six : Bool) → Good t
    → Good (let u = cond (four || five) (emptying t) t in let v = cond five (restoring u) u in cond six (releasing v) v)
flags-keep t true true true g = releasing-keeps _ (restoring-keeps _ (emptying-keeps t g) (emptying-opened t))
flags-keep t true true false g = restoring-keeps _ (emptying-keeps t g) (emptying-opened t)
flags-keep t true false true g = releasing-keeps _ (emptying-keeps t g)
flags-keep t true false false g = emptying-keeps t g
flags-keep t false true true g = releasing-keeps _ (restoring-keeps _ (emptying-keeps t g) (emptying-opened t))
flags-keep t false true false g = restoring-keeps _ (emptying-keeps t g) (emptying-opened t)
flags-keep t false false true g = releasing-keeps t g
flags-keep t false false false g = g

-- before bit 6
pub restored-keeps : (t : Tables) (flags : ℕ) → Good t
    → Good (let u = cond (bit4 flags || bit5 flags) (emptying t) t in cond (bit5 flags) (restoring u) u)
restored-keeps t flags g = flags-keep t (bit4 flags) (bit5 flags) false g

pub resetting-keeps : (t : Tables) (flags : ℕ) → Good t → Good (resetting t flags)
unfolding resetting
resetting-keeps t flags g = flags-keep t (bit4 flags) (bit5 flags) (bit6 flags) g

-- no name and no unit
empty-default : DefaultGood (replicate {A = ℕ} 28 0) 0 0
empty-default = record {
  letters = record { most = omega arith; low = λ i a. absurd (not-suc-le-zero a); high = λ i a. absurd (not-suc-le-zero a); rest = λ i a b. zeros-at 28 i };
  none = λ _. refl;
}

started-good : (room : ℕ) (list : List ℕ) → ListGood (padded 32 list) (length list) → RoomGood room room → Good (started room list)
unfolding started
started-good room list l r =
    let n = length list in
    let p = l.least in
    let q = l.most in
    whole _ (record {
      sized = record { list = length-padded 32 list q; classes = fresh-length n p q; chain = refl; channels = refl; devices = refl };
      list = l;
      classes = fresh-classes n p q;
      room = r;
      chain = fresh-chain n p q;
      channels = no-channels 3;
      none = λ _. refl;
      devices = built;
      default = empty-default;
    })
    (sym (length-low room 0 (omega arith))) (omega arith)

-- "Start": what passes its test makes good tables
pub start-good : (ram room : ℕ) (list : List ℕ) → start_test ram room list ≡ true → Good (started room list)
start-good ram room list e =
    let h = (says-and (says-and (says-and (list-says (padded 32 list) (length list)) (says-le 256 room)) (says-le room 16128)) (says_eq ram (SEGMENT * length list))).yes e in
    started-good room list h.0.0.0 (record { least = h.0.0.1; most = omega arith; top = h.0.1 })

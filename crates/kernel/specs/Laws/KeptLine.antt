-- Open and close keep good tables; the room rule lets the chain grow to what the line takes.
use Rattle.std.specs.Prelude.{◌≡◌, refl, Bool, true, false, ℕ, suc, ◌+◌, ◌-◌, ◌≤◌, ◌<◌, get_or, take, set}
use Rattle.std.proofs.Common.{ap, ◌∙◌, arith, length-set}
use Rattle.rows.specs.Definition.Lists.{without}
use Rattle.rows.specs.Definition.Classes.{FREE}
use Rattle.rows.specs.Definition.Channels.{zero_channel, sum_of}
use Rattle.rows.specs.Definition.Sizes.{chain_length}
use Rattle.rows.specs.Laws.Sizes.{length-mono, edge-falls, chain-most}
use Rattle.rows.specs.Laws.ChannelRows.{sum-without, sum-set, channels-less, channels-more, length_without}
use Rattle.rows.specs.declared.Channel.{Channel}
use Rattle.kernel.specs.Definition.Tables.{count_of, sharing, with_channels}
use Rattle.kernel.specs.Definition.Line.{total_of, grown, room_for, opening, closing}
use Rattle.kernel.specs.Definition.Good.{Good}
use Rattle.kernel.specs.Within.{spare}
use Rattle.kernel.specs.Laws.Body.{Body, body, whole, body-channels, keeps-total}
use Rattle.kernel.specs.Laws.Facts.{no-shorter}
use Rattle.kernel.specs.Laws.Grow.{grown-body, grown-held, grown-rest}
use Rattle.kernel.specs.Laws.Room.{shares-no, line-sum, room-in-bytes}
use Rattle.kernel.specs.Laws.Shrink.{cut}
use Rattle.kernel.specs.declared.Tables.{Tables}

fill-by : (t : Tables) (k : ℕ) → Body t → t.held + k ≡ chain_length t.room (total_of t) → room_for t t.room (total_of t) ≡ true
    → (shared : Bool) → sharing t ≡ shared → Good (grown k t)
unfolding grown
fill-by t k b l e true s =
    let h = (room-in-bytes t b t.room (total_of t) (omega arith)).yes e in
    let none : spare t ≡ 0 = rw s in
    let m = chain-most t.room (total_of t) (t.held - 1) (omega arith) in
    let some = b.chain.holds in
    let z : k ≡ 0 = omega arith in
    let q : t.held ≡ chain_length t.room (total_of t) = omega arith in
    rw z (whole t b q (omega (arith, line-sum t.room (total_of t))))
fill-by t k b l e false s =
    let h = (room-in-bytes t b t.room (total_of t) (omega arith)).yes e in
    let free : spare t ≡ count_of FREE t = rw s in
    let a = shares-no t b s in
    let m = chain-most t.room (total_of t) (t.held - 1 + count_of FREE t) (omega arith) in
    let r = grown-rest k t in
    let few : k ≤ count_of FREE t = omega (arith, b.chain.holds) in
    whole (grown k t) (grown-body k t b a few) (rw (r.keeps.room, keeps-total r.keeps, grown-held k t b a few) l) (omega (arith, r.user, b.none a))

-- the chain grown to what the line takes, where the room rule lets it
pub fill : (t : Tables) → Body t → t.held ≤ chain_length t.room (total_of t) → room_for t t.room (total_of t) ≡ true
    → Good (grown (chain_length t.room (total_of t) - t.held) t)
fill t b h e = fill-by t (chain_length t.room (total_of t) - t.held) b (omega arith) e (sharing t) refl

pub opening-keeps : (t : Tables) (c : Channel) → Good t → t.opened < 32 → c.number < 255 → c.device < t.known
    → ((i : ℕ) → i < t.opened → (get_or t.channels i zero_channel).number ≡ c.number → ⊥)
    → room_for t t.room (total_of t + (16 + c.n)) ≡ true → Good (opening t c)
unfolding opening room_for
opening-keeps t c g h a b new e =
    let l = g.sized.channels in
    let cs = set t.channels t.opened c in
    let u = with_channels t (t.opened + 1) cs in
    let s : total_of u ≡ total_of t + (16 + c.n) = sum-set t.channels t.opened c (omega arith) in
    rw (← s) (fill u
    (body-channels t (t.opened + 1) cs (length-set t.channels t.opened c ∙ l)
    (channels-more t.channels t.opened t.known c l h a b new g.channels) (body t g))
    (no-shorter t g t.room (total_of u) (omega arith) (omega arith))
    (rw s e))

pub closing-keeps : (t : Tables) (i : ℕ) → Good t → i < t.opened → Good (closing t i)
unfolding closing
closing-keeps t i g h =
    let m = g.channels.most in
    let l = g.sized.channels in
    let cs = without i t.channels zero_channel in
    let u = with_channels t (t.opened - 1) cs in
    let e : t.opened ≡ suc (t.opened - 1) = omega arith in
    let s : total_of u ≤ total_of t =
    omega (
      arith,
      sum-without zero_channel zero_channel i t.channels (t.opened - 1) (omega arith) (omega arith),
      ap (λ (k : ℕ). sum_of (take k t.channels)) e,
    ) in
    cut u
    (body-channels t (t.opened - 1) cs (length_without zero_channel zero_channel i t.channels (omega arith) ∙ l)
    (channels-less t.channels t.opened t.known i l h g.channels) (body t g))
    (omega (arith, g.line, length-mono t.room t.room (total_of u) (total_of t) (omega arith) s))
    (λ q. omega (arith, g.user.most, edge-falls t.room (total_of u) (total_of t) s (q ∙ g.line)))

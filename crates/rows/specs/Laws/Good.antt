-- The tests and the records say the same, part by part.
use Rattle.std.specs.Prelude.{◌≡◌, refl, Bool, true, false, List, ℕ, ◌+◌, ◌-◌, ◌≤◌, ◌<◌, length, get_or, take}
use Rattle.std.proofs.Common.{ap, sym, ◌∙◌, inl, inr, ⊎_elim, arith}
use Rattle.std.proofs.lemmas.Bool.{false≢true}
use Rattle.std.proofs.Math.Decide.{dec_le, ℕ_discrete}
use Rattle.rows.specs.Definition.Lists.{at, padded, tally, up_to}
use Rattle.rows.specs.Laws.Lists.{is_false}
use Rattle.rows.specs.Laws.Says.{Says, says-le, says-lt, says_eq, says-and, says-below, says-from, says_all, says-no, says-not, says-as, says-else, says-cond, says-or, says-false}
use Rattle.rows.specs.Definition.Classes.{FREE, SHARED, times_held}
use Rattle.rows.specs.Definition.Channels.{new_channel, zero_channel}
use Rattle.rows.specs.Definition.Devices.{beyond_devices, same_bytes, same_name, VIDEO, NET, KEYBOARD}
use Rattle.rows.specs.Definition.Good.{ListGood, ClassesGood, ChainGood, RoomGood, ChannelsGood, UserGood, NameGood, Same, ZeroDevice, Alias, Named, DevicesGood, DefaultGood}
use Rattle.rows.specs.Definition.Tests.{rest_row, rise_row, list_test, class_row, class_test, chain_row, exact_row, chain_test, room_test, user_test, empty_channel, rest_channel, differ_row, channel_row, channel_test, letter_row, name_test, default_test, zero_row, empty_device, rest_device, alias_row, agree, device_row, named_row, device_test}
use Rattle.rows.specs.declared.Channel.{Channel}
use Rattle.rows.specs.declared.Device.{Device}

-- rows from n on are zero
pub says-rest : (xs : List ℕ) (n : ℕ) → Says (up_to 32 (rest_row xs n)) ((i : ℕ) → i < 32 → n ≤ i → at xs i ≡ 0)
says-rest xs n = says_all 32 (rest_row xs n) _ (λ i h. says-from n i (says_eq (at xs i) 0))

-- the list
pub list-says : (xs : List ℕ) (n : ℕ) → Says (list_test xs n) (ListGood xs n)
list-says xs n =
    says-as (says-and (says-and (says-and (says-and (says-and (says-le 2 n) (says-le n 32))
    (says_all 31 (rise_row xs n) _ (λ i h. says-below n (i + 1) (says-lt (at xs i) (at xs (i + 1))))))
    (says-lt 7 (at xs 0))) (says_eq (at xs (n - 1)) 255)) (says-rest xs n))
    (λ h. record {
      least = h.0.0.0.0.0;
      most = h.0.0.0.0.1;
      rises = λ i a. h.0.0.0.1 i (omega arith) a;
      low = h.0.0.1;
      last = h.0.1;
      rest = λ i a b. h.1 i b a;
    })
    (λ g. (((((g.least, g.most), λ i h a. g.rises i a), g.low), g.last), λ i h a. g.rest i a h))

-- R and the cold R
pub room_says : (room cold : ℕ) → Says (room_test room cold) (RoomGood room cold)
room_says room cold =
    says-as (says-and (says-and (says-le 256 room) (says-le room cold)) (says-le cold 16128))
    (λ h. record { least = h.0.0; most = h.0.1; top = h.1 }) (λ g. ((g.least, g.most), g.top))

-- the classes
pub class-says : (cs : List ℕ) (n : ℕ) → 1 ≤ n → n ≤ 32 → Says (class_test cs n) (ClassesGood n cs)
class-says cs n one most =
    says-as (says-and (says_all 32 (class_row cs n) _ (λ i h. says-below n i
    (says-cond (says_eq i 0) (says_eq (at cs i) 0) (says-and (says-le FREE (at cs i)) (says-le (at cs i) SHARED)))))
    (says-rest cs n))
    (λ h. record {
      page = (h.0 0 (omega arith) (omega arith)).0 refl;
      some = λ i a b. ((h.0 i (omega arith) b).1 (λ q. omega arith)).0;
      most = λ i b. elim (ℕ_discrete i 0) [ yes q ↦ omega (arith, (h.0 i (omega arith) b).0 q) | no q ↦ ((h.0 i (omega arith) b).1 q).1 ];
      rest = λ i a b. h.1 i b a;
    })
    (λ g. (λ i h b. (λ q. rw q g.page, λ q. (g.some i (omega arith) b, g.most i b)), λ i h a. g.rest i a h))

-- the chain
abbrev times : List ℕ → ℕ → ℕ → ℕ
times chain held i = tally i (take held chain)

pub chain-says : (cs chain : List ℕ) (held n : ℕ) → n ≤ 32 → Says (chain_test cs chain held n) (ChainGood n cs chain held)
chain-says cs chain held n most =
    says-as (says-and (says-and (says-and (says-and (says-and (says-le 1 held) (says-le held 32)) (says_eq (at chain 0) (n - 1)))
    (says_all 32 (chain_row chain held n) _ (λ i h. says-below held i (says-lt (at chain i) n))))
    (says_all 32 (exact_row cs chain held (at chain (held - 1)) n) _ (λ i h. says-below n i
    (says-and (says_eq (times chain held i) (times_held (at cs i))) (says-else (says-not (says_eq (at cs i) SHARED)) (says_eq (at chain (held - 1)) i))))))
    (says-rest chain held))
    (λ h. record {
      holds = h.0.0.0.0.0;
      most = h.0.0.0.0.1;
      starts = h.0.0.0.1;
      rows = λ i a. h.0.0.1 i (omega (arith, h.0.0.0.0.1)) a;
      exact = λ r a. (h.0.1 r (omega arith) a).0;
      last = λ r a e. (h.0.1 r (omega arith) a).1 (λ n. n e);
      rest = λ i a b. h.1 i b a;
    })
    (λ g. (((((g.holds, g.most), g.starts), λ i h a. g.rows i a), λ i h a. (g.exact i a, λ n. elim (ℕ_discrete (at cs i) SHARED) [ yes q ↦ g.last i a q | no q ↦ absurd (n q) ])), λ i h a. g.rest i a h))

-- the channels
empty-says : (c : Channel) → Says (empty_channel c) (c ≡ zero_channel)
empty-says c =
    says-as (says-and (says-and (says-and (says_eq c.number 0) (says_eq c.device 0)) (says_eq c.unit 0)) (says_eq c.n 0))
    (λ h. made c.number c.device c.unit c.n h.0.0.0 h.0.0.1 h.0.1 h.1)
    (λ e. (((ap (λ (x : Channel). x.number) e, ap (λ (x : Channel). x.device) e), ap (λ (x : Channel). x.unit) e), ap (λ (x : Channel). x.n) e))
  where
    made : (a b c d : ℕ) → a ≡ 0 → b ≡ 0 → c ≡ 0 → d ≡ 0 → new_channel a b c d ≡ zero_channel
    made a b c d p q r s = rw (p, q, r, s)

pub channel-says : (cs : List Channel) (opened known : ℕ) → Says (channel_test cs opened known) (ChannelsGood cs opened known)
channel-says cs opened known =
    let num : ℕ → ℕ = λ i. (get_or cs i zero_channel).number in
    says-as (says-and (says-and (says-le opened 32)
    (says_all opened (channel_row cs known) _ (λ i h. says-and (says-and (says-lt (num i) 255) (says-lt (get_or cs i zero_channel).device known))
    (says_all i (differ_row cs i) _ (λ j k. says-not (says_eq (num j) (num i)))))))
    (says_all 32 (rest_channel cs opened) _ (λ i h. says-from opened i (empty-says (get_or cs i zero_channel)))))
    (λ h. record {
      most = h.0.0;
      numbers = λ i a. (h.0.1 i a).0.0;
      differ = λ i j a b e. (h.0.1 j b).1 i a e;
      devices = λ i a. (h.0.1 i a).0.1;
      rest = λ i a b. h.1 i b a;
    })
    (λ g. ((g.most, λ i h. ((g.numbers i h, g.devices i h), λ j k e. g.differ j i k h e)), λ i h a. g.rest i a h))

-- the user boundary, at the class of the chain's last segment
pub user-says : (cs : List ℕ) (last user edge : ℕ) → Says (user_test (at cs last) user edge) (UserGood cs last user edge)
user-says cs last user edge =
    says-as (says-and (says-le user edge) (says-else (says_eq (at cs last) SHARED) (says_eq user 0)))
    (λ h. record { most = h.0; none = h.1 }) (λ g. (g.most, g.none))

-- names and devices
pub name-says : (name : List ℕ) (n : ℕ) → Says (name_test name n) (NameGood name n)
name-says name n =
    says-as (says-and (says-le n 28) (says_all 28 (letter_row name n) _ (λ i h.
    says-or (says-and (says-le n i) (says_eq (at name i) 0)) (says-and (says-and (says-lt i n) (says-le 65 (at name i))) (says-le (at name i) 90)))))
    (λ h. let row = h.1 in let m = h.0 in record {
      most = h.0;
      low = λ i a. ⊎_elim (λ w. absurd (omega (arith, w.0))) (λ w. w.0.1) (row i (omega arith));
      high = λ i a. ⊎_elim (λ w. absurd (omega (arith, w.0))) (λ w. w.1) (row i (omega arith));
      rest = λ i a b. ⊎_elim (λ w. w.1) (λ w. absurd (omega (arith, w.0.0))) (row i b);
    })
    (λ g. (
      g.most,
      λ i h. elim (dec_le n i) [
        | yes q ↦ inl (q, g.rest i q h)
        | no q ↦ inr ((omega arith, g.low i (omega arith)), g.high i (omega arith))
      ],
    ))

pub same-says : (a : List ℕ) (length-a : ℕ) (b : List ℕ) (length-b : ℕ) → Says (same_name a length-a b length-b) (Same a length-a b length-b)
same-says a length-a b length-b =
    says-as (says-and (says_eq length-a length-b) (says_all 28 (same_bytes a b) (λ k. at a k ≡ at b k) (λ k h. says_eq (at a k) (at b k))))
    (λ h. record { long = h.0; bytes = h.1 }) (λ g. (g.long, g.bytes))

pub same-yes : (a : List ℕ) (length-a : ℕ) (b : List ℕ) (length-b : ℕ) → Same a length-a b length-b → same_name a length-a b length-b ≡ true
same-yes a length-a b length-b = (same-says a length-a b length-b).make

pub same-no : (a : List ℕ) (length-a : ℕ) (b : List ℕ) (length-b : ℕ) → (Same a length-a b length-b → ⊥) → same_name a length-a b length-b ≡ false
same-no a length-a b length-b = says-no (same-says a length-a b length-b)

named-says : (ds : List Device) (i : ℕ) (s : List ℕ) → Says (named_row ds i s) (Named ds i s)
named-says ds i s = same-says (get_or ds i beyond_devices).name (get_or ds i beyond_devices).length (padded 28 s) (length s)

no-device-says : (d : Device) → Says (empty_device d) (ZeroDevice d)
no-device-says d =
    says-as (says-and (says-and (says_eq d.length 0) (says-false d.enabled)) (says_all 28 (zero_row d.name) _ (λ k h. says_eq (at d.name k) 0)))
    (λ h. record { name = h.1; none = h.0.0; off = h.0.1 }) (λ g. ((g.none, g.off), g.name))

agree-says : (a b : Bool) → Says (agree a b) (a ≡ b)
agree-says true true = record { yes = λ e. refl; make = λ e. refl }
agree-says true false = record { yes = λ e. sym e; make = λ e. sym e }
agree-says false true = record { yes = λ e. e; make = λ e. e }
agree-says false false = record { yes = λ e. refl; make = λ e. refl }

-- no later device of the name
abbrev Latest : List Device → ℕ → ℕ → Type 0
Latest ds known i = (j : ℕ) → i < j → j < known → Alias ds j i → ⊥

latest-says : (ds : List Device) (known i : ℕ) → Says (up_to known (alias_row ds i)) (Latest ds known i)
latest-says ds known i =
    let d : ℕ → Device = λ k. get_or ds k beyond_devices in
    says-as (says_all known (alias_row ds i) _ (λ j h. says-below j i (says-not (same-says (d j).name (d j).length (d i).name (d i).length))))
    (λ h j a b. h j b a)
    (λ g j h a. g j a h)

-- on and off together
enabled-says : (a b : Bool) (P : Type 0) → Says b P → Says (agree a b) ((P → a ≡ true) × ((P → ⊥) → a ≡ false))
enabled-says a b P f =
    says-as (agree-says a b)
    (λ e. (λ p. e ∙ f.make p, λ n. e ∙ says-no f n))
    (λ h. back b (λ q. h.0 (f.yes q)) (λ n. h.1 (λ p. n (f.make p))))
  where
    back : (b : Bool) → (b ≡ true → a ≡ true) → ((b ≡ true → ⊥) → a ≡ false) → a ≡ b
    back true p q = p refl
    back false p q = q (λ e. false≢true e)

pub device-says : (ds : List Device) (known : ℕ) → Says (device_test ds known) (DevicesGood ds known)
device-says ds known =
    let d : ℕ → Device = λ i. get_or ds i beyond_devices in
    says-as (says-and (says-and (says-and (says-and (says-le 3 known) (says-le known 16))
    (says-and (says-and (named-says ds 0 VIDEO) (named-says ds 1 NET)) (named-says ds 2 KEYBOARD)))
    (says_all known (device_row ds known) _ (λ i h.
    says-and (says-and (says-le 1 (d i).length) (name-says (d i).name (d i).length))
    (enabled-says (d i).enabled (up_to known (alias_row ds i)) (Latest ds known i) (latest-says ds known i)))))
    (says_all 16 (rest_device ds known) _ (λ i h. says-from known i (no-device-says (d i)))))
    (λ h. let row = h.0.1 in record {
      least = h.0.0.0.0;
      most = h.0.0.0.1;
      video = h.0.0.1.0.0;
      net = h.0.0.1.0.1;
      keyboard = h.0.0.1.1;
      some = λ i a. (row i a).0.0;
      names = λ i a. (row i a).0.1;
      off = λ i j a b e. (row i (omega arith)).1.1 (λ n. n j a b e);
      on = λ i a n. (row i a).1.0 n;
      rest = λ i a b. h.1 i b a;
    })
    (λ g. (
      (
        ((g.least, g.most), ((g.video, g.net), g.keyboard)),
        λ i h. (
          (g.some i h, g.names i h),
          (g.on i h, λ n. is_false (d i).enabled (λ t. n (λ j a b e. false≢true (sym (g.off i j a b e) ∙ t)))),
        ),
      ),
      λ i h a. g.rest i a h,
    ))

pub default-says : (name : List ℕ) (n unit : ℕ) → Says (default_test name n unit) (DefaultGood name n unit)
default-says name n unit =
    says-as (says-and (name-says name n) (says-else (says-lt 0 n) (says_eq unit 0)))
    (λ h. record { letters = h.0; none = λ e. h.1 (λ q. omega arith) }) (λ g. (g.letters, λ q. g.none (omega arith)))

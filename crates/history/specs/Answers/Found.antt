-- What the searches of the tables find is what the refusal table speaks of: a channel, a segment, a class, a device.
use Rattle.std.specs.Prelude.{◌≡◌, Bool, true, List, ℕ, zero, suc, ◌≤◌, ◌<◌, leb, ltb, eqb, length, get_or, take}
use Rattle.std.proofs.Common.{sym, ◌∙◌, inl, inr, add-one, arith, ltb-true, lt-ltb, leb-true, le-leb, eqb-true, eq-eqb, length-take, get_or-take}
use Rattle.std.proofs.lemmas.Bool.{false≢true}
use Rattle.std.proofs.Math.Decide.{dec_lt}
use Rattle.rows.specs.Definition.Lists.{at, first_where}
use Rattle.rows.specs.Laws.Lists.{where_found, where-absent, neither-below}
use Rattle.rows.specs.Definition.Channels.{zero_channel}
use Rattle.rows.specs.Definition.Devices.{beyond_devices, has_name}
use Rattle.rows.specs.Definition.Good.{ListGood, Same}
use Rattle.rows.specs.Laws.Says.{Says, says-lt, says-and, says-as, says-true}
use Rattle.rows.specs.Laws.Good.{same-says}
use Rattle.rows.specs.declared.Channel.{Channel}
use Rattle.rows.specs.declared.Device.{Device}
use Rattle.kernel.specs.Definition.Tables.{row_of, channel_at}
use Rattle.kernel.specs.Definition.Good.{Good}
use Rattle.kernel.specs.Definition.Names.{device_for}
use Rattle.kernel.specs.declared.Wanted.{Wanted}
use Rattle.kernel.specs.Definition.Refusals.{OpenAt, NotOpen, InList, HasClass, Enabled}
use Rattle.kernel.specs.declared.Tables.{Tables}

-- a search among the first n rows ends below n exactly if the test passes in one of them
module _ {A : Type 0} (p : A → Bool) (xs : List A) (d : A) (n : ℕ) (fits : n ≤ length xs) where
  taken : length (take n xs) ≡ n
  taken = omega (arith, length-take n xs)

  search-at : first_where p (take n xs) < n → p (get_or xs (first_where p (take n xs)) d) ≡ true
  search-at h = rw (get_or-take n xs (first_where p (take n xs)) d h) at (where_found p (take n xs) d (omega (arith, taken)))

  search-says : Says (ltb (first_where p (take n xs)) n) ((i : ℕ) × (i < n) × (p (get_or xs i d) ≡ true))
  search-says = record {
    yes = λ e. let h = ltb-true _ _ e in (first_where p (take n xs), h, search-at h);
    make = λ (i, h, e). elim (dec_lt (first_where p (take n xs)) n) [
      | yes q ↦ lt-ltb _ _ q
      | no q ↦ absurd (false≢true (sym (rw (get_or-take n xs i d h) at (where-absent p (take n xs) d (omega (arith, taken)) i (omega (arith, taken)))) ∙ e))
    ];
  }

-- the numbers of the list rise
rises-far : (list : List ℕ) (n : ℕ) → ListGood list n → (i j : ℕ) → i < j → j < n → at list i < at list j
rises-far list n g i zero a b = absurd (omega arith)
rises-far list n g i (suc j) a b =
    let step : at list j < at list (suc j) = rw add-one at (g.rises j (omega arith)) in
    elim (dec_lt i j) [
      | yes q ↦ omega (arith, rises-far list n g i j q (omega arith))
      | no q ↦ let e : i ≡ j = omega arith in rw e step
    ]

module _ (t : Tables) (g : Good t) where
  -- channels
  pub open-says : (channel : ℕ) → Says (ltb (channel_at t channel) t.opened) ((i : ℕ) × OpenAt t channel i)
  open-says channel =
      says-as (search-says (λ (c : Channel). eqb c.number channel) t.channels zero_channel t.opened (omega (arith, g.sized.channels, g.channels.most)))
      (λ (i, h, e). (i, record { row = h; number = eqb-true _ _ e }))
      (λ (i, o). (i, o.row, eq-eqb _ _ o.number))

  pub open_at : (channel : ℕ) → channel_at t channel < t.opened → OpenAt t channel (channel_at t channel)
  open_at channel h = record {
    row = h;
    number = eqb-true _ _ (search-at (λ (c : Channel). eqb c.number channel) t.channels zero_channel t.opened (omega (arith, g.sized.channels, g.channels.most)) h);
  }

  pub open-one : (channel i : ℕ) → OpenAt t channel i → channel_at t channel ≡ i
  open-one channel i o =
      let h = ltb-true _ _ ((open-says channel).make (i, o)) in
      let p = open_at channel h in
      neither-below (channel_at t channel) i
      (λ q. g.channels.differ (channel_at t channel) i q o.row (p.number ∙ sym o.number))
      (λ q. g.channels.differ i (channel_at t channel) q h (o.number ∙ sym p.number))

  -- "255, or not open"
  pub not-open-says : (channel : ℕ) → Says (leb t.opened (channel_at t channel)) (NotOpen t channel)
  not-open-says channel = record {
    yes = λ e. inr (λ i o. omega (arith, leb-true t.opened (channel_at t channel) e, ltb-true (channel_at t channel) t.opened ((open-says channel).make (i, o))));
    make = λ n. elim (dec_lt (channel_at t channel) t.opened) [
      | yes h ↦
          let o = open_at channel h in
          absurd (elim n [ inl q ↦ omega (arith, g.channels.numbers (channel_at t channel) h, o.number) | inr q ↦ q (channel_at t channel) o ])
      | no h ↦ le-leb t.opened (channel_at t channel) (omega arith)
    ];
  }

  -- segments
  pub in_list : (segment : ℕ) → row_of t segment < t.segments → InList t segment (row_of t segment)
  in_list segment h = record {
    within = h;
    number = eqb-true _ _ (search-at (λ (x : ℕ). eqb x segment) t.list 0 t.segments (omega (arith, g.sized.list, g.list.most)) h);
  }

  pub list-one : (segment row : ℕ) → InList t segment row → row_of t segment ≡ row
  list-one segment row o =
      let h = ltb-true _ _ ((search-says (λ (x : ℕ). eqb x segment) t.list 0 t.segments (omega (arith, g.sized.list, g.list.most))).make (row, o.within, eq-eqb _ _ o.number)) in
      let p = in_list segment h in
      let far = rises-far t.list t.segments g.list in
      neither-below (row_of t segment) row
      (λ q. omega (arith, far (row_of t segment) row q o.within, p.number, o.number))
      (λ q. omega (arith, far row (row_of t segment) q h, p.number, o.number))

  pub some-says : (class : ℕ) → Says (ltb (first_where (λ (x : ℕ). eqb x class) (take t.segments t.classes)) t.segments) (HasClass t class)
  some-says class =
      says-as (search-says (λ (x : ℕ). eqb x class) t.classes 0 t.segments (omega (arith, g.sized.classes, g.list.most)))
      (λ (i, h, e). (i, h, eqb-true _ _ e))
      (λ (i, h, e). (i, h, eq-eqb _ _ e))

  -- devices
  answers-says : (w : Wanted) (d : Device) → Says (has_name w.name w.length d) ((1 ≤ w.length) × ((d.enabled ≡ true) × Same d.name d.length w.name w.length))
  answers-says w d =
      says-and (says-lt 0 w.length)
      (says-and (says-true d.enabled) (same-says d.name d.length w.name w.length))

  pub enabled-says : (w : Wanted) → Says (ltb (device_for t w) t.known) ((i : ℕ) × Enabled t w i)
  enabled-says w =
      says-as (search-says (has_name w.name w.length) t.devices beyond_devices t.known (omega (arith, g.sized.devices, g.devices.most)))
      (λ (i, h, e). let a = (answers-says w (get_or t.devices i beyond_devices)).yes e in (i, record { known = h; named = a.0; enabled = a.1.0; same = a.1.1 }))
      (λ (i, o). (i, o.known, (answers-says w (get_or t.devices i beyond_devices)).make (o.named, (o.enabled, o.same))))

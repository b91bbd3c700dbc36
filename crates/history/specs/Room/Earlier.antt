-- "passes every earlier check": what is left of an open and a link of which no row of the refusal table before ROOM holds.
use Rattle.std.specs.Prelude.{◌≡◌, Bool, cond, ◌||◌, List, ℕ, ◌+◌, ◌-◌, ◌≤◌, ◌<◌, eqb}
use Rattle.std.proofs.Math.Path.{refl}
use Rattle.std.proofs.Common.{ap, sym, ◌∙◌, arith}
use Rattle.std.proofs.Math.Bool.{true, false, not}
use Rattle.std.proofs.lemmas.Bool.{false≢true}
use Rattle.std.proofs.Math.Option.{Option, none, some}
use Rattle.std.proofs.Math.Decide.{ℕ_discrete}
use borrow.Author.Tests.{ltb-true, ltb-false, leb-true, eq-eqb}
use Rattle.std.proofs.Math.Dec.{ltb, leb}
use Rattle.names.specs.Definition.Grammar.{Reading}
use Rattle.names.specs.Definition.Read.{reading}
use Rattle.names.specs.Definition.Tests.{link_name_test}
use Rattle.names.specs.Laws.Right.{reading-right, unread-right}
use Rattle.names.specs.Laws.Runs.{link-finds}
use Rattle.rows.specs.Laws.Lists.{is_false}
use Rattle.rows.specs.Laws.Says.{says-no}
use Rattle.kernel.specs.Definition.Tables.{ram_size, channel_at}
use Rattle.kernel.specs.Definition.Line.{total_of, room_for}
use Rattle.kernel.specs.Definition.Devices.{linking, device_named}
use Rattle.kernel.specs.Definition.Names.{wanted, device_for}
use Rattle.kernel.specs.declared.Wanted.{Wanted}
use Rattle.kernel.specs.Definition.Bytes.{Change, nothing, lowered}
use Rattle.kernel.specs.Definition.Answers.{number_of, gives, ◌changing◌}
use Rattle.kernel.specs.Definition.Good.{Sized, Good, good_test}
use Rattle.kernel.specs.Definition.Calls.{Call, «open», link, on_open, on_open_named, on_open_to, on_link}
use Rattle.kernel.specs.Definition.Refusals.{Enabled, NotStart, tables-bad, ram-wrong, open-channel, open-exists, open-name, open-device, open-driver, open_full, link-name, link-full}
use Rattle.kernel.specs.Definition.Step.{heard, decided}
use Rattle.kernel.specs.Laws.Good.{good-says}
use Rattle.kernel.specs.Laws.Ready.{Ready, ready-heard}
use Rattle.kernel.specs.declared.Tables.{Tables}
use Rattle.kernel.specs.declared.Answer.TheVariants.{Done, NoRoom}
use Rattle.history.specs.Definition.Room.{Passes, OnlyRoom}
use Rattle.history.specs.Answers.Found.{open-says, enabled-says}

is_true : (b : Bool) → (b ≡ false → ⊥) → b ≡ true
is_true true h = refl
is_true false h = absurd (h refl)

left_by : (fits : Bool) (x y : ℕ) (t u : Tables) (change : Change) → OnlyRoom (cond (not fits) (gives NoRoom t changing nothing) (gives (Done x y) u changing change)).answer (fits ≡ true)
left_by true x y t u change = record { refused = (λ e. absurd (omega (arith, ap number_of e)), λ e. absurd (e refl)); done = λ _. refl }
left_by false x y t u change = record { refused = (λ _ e. false≢true e, λ _. refl); done = λ e. absurd (false≢true e) }

-- 1 TABLES does not hold: the tables are good, and RAM of their size is lent
pub passes-ready : (t : Tables) (ram output : ℕ) (c : Call) → Sized t → NotStart c → Passes t ram output c → Ready t ram
passes-ready t ram output c s n p =
    let says = good-says t s in
    record {
      good = says.yes (is_true (good_test t) (λ f. p 1 (omega arith) (tables-bad n (λ g. false≢true (sym f ∙ says.make g)))));
      size = elim (ℕ_discrete ram (ram_size t)) [ yes q ↦ q | no q ↦ absurd (p 1 (omega arith) (ram-wrong n q)) ];
    }

-- no device is enabled and so named where none is found
none-enabled : (t : Tables) → Good t → (w : Wanted) → t.known ≤ device_for t w → (i : ℕ) → ¬ Enabled t w i
none-enabled t g w h i e = omega (arith, ltb-true (device_for t w) t.known ((enabled-says t g w).make (i, e)))

module _ (t : Tables) (ram output channel driver n : ℕ) (name : List ℕ) (s : Sized t) (p : Passes t ram output («open» channel driver n name)) where
  ready : Ready t ram
  ready = passes-ready t ram output («open» channel driver n name) s refl p

  new : ltb (channel_at t channel) t.opened ≡ false
  new = says-no (open-says t ready.good channel) (λ (i, o). p 4 (omega arith) (open-exists o))

  low : leb 255 channel ≡ false
  low = is_false _ (λ e. p 3 (omega arith) (open-channel (leb-true _ _ e)))

  driven : eqb driver 0 ≡ true
  driven = elim (ℕ_discrete driver 0) [ yes q ↦ eq-eqb driver 0 q | no q ↦ absurd (p 7 (omega arith) (open-driver q)) ]

  few : leb 32 t.opened ≡ false
  few = is_false _ (λ e. p 8 (omega arith) (open_full (leb-true _ _ e)))

  -- it is done, or the room rule refuses it
  pub open-left : OnlyRoom (decided t ram output («open» channel driver n name)).answer (room_for t t.room (total_of t + (16 + n)) ≡ true)
  unfolding heard on_open on_open_named on_open_to
  open-left = go (reading name) refl
    where
      go : (o : Option Reading) → reading name ≡ o
          → OnlyRoom (decided t ram output («open» channel driver n name)).answer (room_for t t.room (total_of t + (16 + n)) ≡ true)
      go none e = absurd (p 5 (omega arith) (open-name (unread-right name e)))
      go (some r) e =
          let w = wanted t r in
          let known : leb t.known (device_for t w) ≡ false =
          is_false _ (λ h. p 6 (omega arith) (open-device (reading-right name r e) (none-enabled t ready.good w (leb-true _ _ h)))) in
          rw (ready-heard t ram output («open» channel driver n name) ready, low, new, e, known, driven, few)
          (left_by (room_for t t.room (total_of t + (16 + n))) _ _ t _ _)

module _ (t : Tables) (ram output m : ℕ) (name : List ℕ) (s : Sized t) (p : Passes t ram output (link m name)) where
  link-ready : Ready t ram
  link-ready = passes-ready t ram output (link m name) s refl p

  capitals : link_name_test name ≡ true
  capitals = is_true _ (λ e. p 5 (omega arith) (link-name (λ h. false≢true (sym e ∙ link-finds name h))))

  room-left : leb 16 t.known ≡ false
  room-left = is_false _ (λ e. p 8 (omega arith) (link-full (leb-true _ _ e)))

  -- it is done, or R - m < 256 or the room rule refuses it
  pub link_left : OnlyRoom (decided t ram output (link m name)).answer ((256 + m ≤ t.room) × (room_for t (t.room - m) (total_of t) ≡ true))
  unfolding heard on_link
  link_left =
      rw (ready-heard t ram output (link m name) link-ready, capitals, room-left)
      (both_by (ltb t.room (256 + m)) (room_for t (t.room - m) (total_of t)) refl)
    where
      both_by : (low fits : Bool) → ltb t.room (256 + m) ≡ low
          → OnlyRoom (cond (low || not fits) (gives NoRoom t changing nothing) (gives (Done t.known (t.room - m)) (linking t m (device_named name)) changing lowered m)).answer
          ((256 + m ≤ t.room) × (fits ≡ true))
      both_by true fits e =
          let h : t.room < 256 + m = ltb-true _ _ e in
          record { refused = (λ _ b. omega (arith, b.0), λ _. refl); done = λ b. absurd (omega (arith, b.0)) }
      both_by false fits e =
          let x = left_by fits t.known (t.room - m) t (linking t m (device_named name)) (lowered m) in
          let h : 256 + m ≤ t.room = ltb-false _ _ e in
          record { refused = (λ a b. x.refused.0 a b.1, λ a. x.refused.1 (λ b. a (h, b))); done = λ b. x.done b.1 }

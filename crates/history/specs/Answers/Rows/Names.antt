-- Open, default and link.
use Rattle.std.specs.Prelude.{◌≡◌, List, ◌≢◌, ◌⊎◌, ℕ, ◌+◌, ◌-◌, ◌≤◌, ◌<◌, leb}
use Rattle.std.proofs.Math.Path.{refl}
use Rattle.std.proofs.lemmas.Bool.{false≢true}
use Rattle.std.proofs.Common.{inl, inr, ⊎_elim, arith}
use Rattle.std.proofs.Math.Option.{Option, none, some}
use Rattle.names.specs.Definition.Grammar.{Reading, Reads}
use Rattle.names.specs.Definition.Read.{reading}
use Rattle.names.specs.Laws.Right.{reading-right, reads-one, unread-right}
use Rattle.names.specs.Laws.Runs.{link-right, link-finds, default-right, default-finds}
use Rattle.names.specs.Definition.Words.{LinkName, DefaultName}
use Rattle.rows.specs.Laws.Says.{Says, says-le, says-lt, says_eq, says-or, says-not, says-as}
use Rattle.kernel.specs.Definition.Good.{Good}
use Rattle.kernel.specs.Definition.Line.{total_of}
use Rattle.kernel.specs.Definition.Names.{wanted, device_for}
use Rattle.kernel.specs.Definition.Bytes.{nothing}
use Rattle.kernel.specs.Definition.Answers.{gives, ◌changing◌}
use Rattle.kernel.specs.Definition.Calls.{«open», default, link, on_open_to, on_open_named, on_open, on_default, on_link}
use Rattle.kernel.specs.Definition.Refusals.{Row, OpenAt, Enabled, Room, open-channel, open-exists, open-name, link-name, default-name, open-device, open-driver, open_full, link-full, open-room, link-low, link-room}
use Rattle.kernel.specs.declared.Tables.{Tables}
use Rattle.kernel.specs.declared.Answer.TheVariants.{NoChannel, Exists, BadName, NoDevice, Driver, Full, NoRoom}
use Rattle.history.specs.Answers.Lowest.{Below, Lowest, end, rule}
use Rattle.history.specs.Answers.Tests.{says-beyond}
use Rattle.history.specs.Answers.Numbers.{by_rows, by-none}
use Rattle.history.specs.Answers.Rows.Room.{room_says}
use Rattle.history.specs.Answers.Found.{open-says, enabled-says}

module _ {t : Tables} {ram output : ℕ} where
  open-3 : {channel driver n : ℕ} {name : List ℕ} → Row t ram output («open» channel driver n name) 3 → 255 ≤ channel
  open-3 (open-channel h) = h

  module _ {channel driver n : ℕ} {name : List ℕ} where
    open-4 : Row t ram output («open» channel driver n name) 4 → (i : ℕ) × OpenAt t channel i
    open-4 (open-exists {i = i} o) = (i, o)

    open-5 : Row t ram output («open» channel driver n name) 5 → (r : Reading) → ¬ Reads name r
    open-5 (open-name n) = n

    open-6 : Row t ram output («open» channel driver n name) 6 → (r : Reading) × Reads name r × ((i : ℕ) → ¬ Enabled t (wanted t r) i)
    open-6 (open-device {r = r} h n) = (r, h, n)

    open-7 : Row t ram output («open» channel driver n name) 7 → driver ≢ 0
    open-7 (open-driver h) = h

    open-8 : Row t ram output («open» channel driver n name) 8 → 32 ≤ t.opened
    open-8 (open_full h) = h

    open-9 : Row t ram output («open» channel driver n name) 9 → ¬ Room t t.room (total_of t + (16 + n))
    open-9 (open-room h) = h

  default-5 : {unit : ℕ} {name : List ℕ} → Row t ram output (default unit name) 5 → ¬ DefaultName name
  default-5 (default-name n) = n

  link-5 : {m : ℕ} {name : List ℕ} → Row t ram output (link m name) 5 → ¬ LinkName name
  link-5 (link-name n) = n

  link-8 : {m : ℕ} {name : List ℕ} → Row t ram output (link m name) 8 → 16 ≤ t.known
  link-8 (link-full h) = h

  link-9 : {m : ℕ} {name : List ℕ} → Row t ram output (link m name) 9 → (t.room < 256 + m) ⊎ ¬ Room t (t.room - m) (total_of t)
  link-9 (link-low h) = inl h
  link-9 (link-room h) = inr h

module _ (t : Tables) (g : Good t) (ram output : ℕ) where
  -- 6 DEVICE: "no enabled device so named"
  device-says : (channel driver n : ℕ) (name : List ℕ) (r : Reading) → Reads name r
      → Says (leb t.known (device_for t (wanted t r))) (Row t ram output («open» channel driver n name) 6)
  device-says channel driver n name r h =
      says-as (says-beyond (device_for t (wanted t r)) t.known (enabled-says t g (wanted t r)))
      (λ m. open-device {r = r} h (λ i o. m (i, o)))
      (λ x (i, o). let (q, k, m) = open-6 x in let e : r ≡ q = reads-one name r q h k in m i (rw e at o))

  open-named : (channel driver n : ℕ) (name : List ℕ) (found : Option Reading) → reading name ≡ found
      → Below (Row t ram output («open» channel driver n name)) 5 → Lowest (Row t ram output («open» channel driver n name)) (on_open_named t channel driver n found)
  unfolding on_open_named on_open_to
  open-named channel driver n name none e =
      by_rows («open» channel driver n name) (gives BadName t changing nothing)
      (rule BadName refl (λ _. record { yes = λ _. open-name (unread-right name e); make = λ _. refl })
      end)
      (λ low. absurd (low 5 (omega arith) (open-name (unread-right name e))))
  open-named channel driver n name (some r) e =
      let h = reading-right name r e in
      by_rows («open» channel driver n name) _
      (rule BadName refl (λ _. record { yes = λ q. absurd (false≢true q); make = λ x. absurd (open-5 x r h) })
      (rule NoDevice refl (λ _. device-says channel driver n name r h)
      (rule (Driver driver) refl (λ _. says-as (says-not (says_eq driver 0)) open-driver open-7)
      (rule Full refl (λ _. says-as (says-le 32 t.opened) open_full open-8)
      (rule NoRoom refl (λ _. says-as (says-not (room_says t g t.room (total_of t + (16 + n)))) open-room open-9)
      end)))))
      (by-none («open» channel driver n name) _ refl refl)

  pub open-lowest : (channel driver n : ℕ) (name : List ℕ) → Below (Row t ram output («open» channel driver n name)) 2
      → Lowest (Row t ram output («open» channel driver n name)) (on_open t channel driver n name)
  unfolding on_open
  open-lowest channel driver n name =
      by_rows («open» channel driver n name) _
      (rule NoChannel refl (λ _. says-as (says-le 255 channel) open-channel open-3)
      (rule Exists refl (λ _. says-as (open-says t g channel) (λ (i, o). open-exists o) open-4)
      end))
      (open-named channel driver n name (reading name) refl)

  pub default-lowest : (unit : ℕ) (name : List ℕ) → Below (Row t ram output (default unit name)) 2
      → Lowest (Row t ram output (default unit name)) (on_default t unit name)
  unfolding on_default
  default-lowest unit name =
      by_rows (default unit name) _
      (rule BadName refl (λ _. says-as (says-not (record { yes = default-right name; make = default-finds name })) default-name default-5)
      end)
      (by-none (default unit name) _ refl refl)

  pub link-lowest : (m : ℕ) (name : List ℕ) → Below (Row t ram output (link m name)) 2 → Lowest (Row t ram output (link m name)) (on_link t m name)
  unfolding on_link
  link-lowest m name =
      by_rows (link m name) _
      (rule BadName refl (λ _. says-as (says-not (record { yes = link-right name; make = link-finds name })) link-name link-5)
      (rule Full refl (λ _. says-as (says-le 16 t.known) link-full link-8)
      (rule NoRoom refl (λ _. says-as (says-or (says-lt t.room (256 + m)) (says-not (room_says t g (t.room - m) (total_of t)))) (⊎_elim link-low link-room) link-9)
      end)))
      (by-none (link m name) _ refl refl)

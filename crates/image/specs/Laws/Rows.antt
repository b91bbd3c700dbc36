-- That the bytes of a channel and of a device tell the row, and so do rows one after the other.
use Rattle.std.specs.Prelude.{◌≡◌, refl, Bool, true, false, List, [], ◌∷◌, ◌++◌, ℕ, suc, ◌+◌, ◌*◌, ◌/◌, ◌%◌, ◌<◌, length, get_or}
use Rattle.std.proofs.Common.{◌∙◌, append_assoc, length-append, suc-le-suc, arith, drop_at}
use Rattle.rows.specs.declared.Channel.{Channel}
use Rattle.rows.specs.declared.Device.{Device}
use Rattle.image.specs.Definition.Offsets.{CHANNEL, DEVICE-LENGTH, DEVICE-ENABLED, DEVICE}
use Rattle.image.specs.Definition.Image.{bit_of, flag_of, rows_bytes, rows_of, channel_bytes, channel_from, device_bytes, device_from}
use Rattle.image.specs.Laws.At.{At, run_is, next, u8_is}
use Rattle.image.specs.Within.{Told, Named}

module _ {A : Type 0} {width : ℕ} {bytes : A → List ℕ} {from : List ℕ → A} {Full : A → Type 0} (told : Told width bytes from Full) (none : A) where
  pub rows-length : (rows : List A) → ((i : ℕ) → i < length rows → Full (get_or rows i none)) → length (rows_bytes bytes rows) ≡ width * length rows
  rows-length [] h = omega arith
  rows-length (a ∷ rows) h =
      let l = told.long a (h 0 (omega arith)) in
      let m = rows-length rows (λ i g. h (suc i) (suc-le-suc g)) in
      let e : width + width * length rows ≡ width * suc (length rows) = omega arith in
      length-append (bytes a) (rows_bytes bytes rows) ∙ rw (l, m) e

  pub rows_back : (rows : List A) (zs : List ℕ) → ((i : ℕ) → i < length rows → Full (get_or rows i none)) → rows_of from width (length rows) (rows_bytes bytes rows ++ zs) ≡ rows
  rows_back [] zs h = refl
  rows_back (a ∷ rows) zs h =
      let p = h 0 (omega arith) in
      let more = rows_bytes bytes rows ++ zs in
      rw (append_assoc (bytes a) (rows_bytes bytes rows) zs, told.back a more p, drop_at (bytes a) more width (told.long a p), rows_back rows zs (λ i g. h (suc i) (suc-le-suc g)))

channel-back : (c : Channel) (zs : List ℕ) → Unit {0} → channel_from (channel_bytes c ++ zs) ≡ c
channel-back c zs u = let e : c.n % 256 + 256 * (c.n / 256) ≡ c.n = omega arith in rw e

pub channel_told : Told CHANNEL channel_bytes channel_from (λ _. Unit {0})
channel_told = record { long = λ c u. refl; back = channel-back }

device-long : (d : Device) → Named d → length (device_bytes d) ≡ DEVICE
device-long d h = simp length-append (omega arith)

flag-back : (b : Bool) → flag_of (bit_of b) ≡ b
flag-back true = refl
flag-back false = refl

device-back : (d : Device) (zs : List ℕ) → Named d → device_from (device_bytes d ++ zs) ≡ d
device-back d zs h =
    let b = bit_of d.enabled in
    let xs = device_bytes d ++ zs in
    let p : At xs 0 d.name (d.length ∷ b ∷ zs) = record { is = simp append_assoc } in
    let q : At xs DEVICE-LENGTH (d.length ∷ []) (b ∷ zs) = next p 28 h refl in
    let r : At xs DEVICE-ENABLED (b ∷ []) zs = next q 1 refl refl in
    rw (run_is p 28 h, u8_is q, u8_is r, flag-back d.enabled)

pub device_told : Told DEVICE device_bytes device_from Named
device_told = record { long = device-long; back = device-back }

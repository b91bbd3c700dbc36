-- An image has SIZE bytes and tells the tables; an outcome's bytes tell how many bytes were moved.
use Rattle.std.specs.Prelude.{◌≡◌, ℕ, ◌+◌, ◌*◌, ◌<◌, length, get_or, drop}
use Rattle.std.proofs.Math.Path.{refl, ap}
use Rattle.std.proofs.Common.{sym, ◌∙◌, arith}
use mathlib.Core.List.{List, [], ◌∷◌, ◌++◌, append_assoc}
use Rattle.std.proofs.Math.ListN.{length-append}
use Rattle.rows.specs.Definition.Channels.{zero_channel}
use Rattle.rows.specs.Definition.Devices.{beyond_devices}
use Rattle.kernel.specs.Definition.Good.{Sized}
use Rattle.kernel.specs.declared.Tables.{Tables}
use Rattle.kernel.specs.declared.Answer.{Answer}
use Rattle.events.specs.Definition.Records.{u16_at}
use Rattle.image.specs.Definition.Offsets.{CHANNEL, DEVICE}
use Rattle.image.specs.Definition.Offsets.{SEGMENTS, LIST, CLASSES, HELD, CHAIN, USER, ROOM, COLD, OPENED, CHANNELS, KNOWN, DEVICES, NAME, LENGTH, UNIT, SIZE}
use Rattle.image.specs.Laws.At.{At, run_is, next, u8_is, u16-is}
use Rattle.image.specs.Laws.Rows.{rows-length, rows_back, channel_told, device_told}
use Rattle.image.specs.Within.{Named}
use Rattle.image.specs.Definition.Image.{u16_bytes, u32_bytes, rows_bytes, rows_of, channel_bytes, channel_from, device_bytes, device_from, segment_bytes, boundary_bytes, row_bytes, default_bytes, image_of, tables_of, outcome_bytes}

-- the arrays have their types' lengths
pub record FullSize (t : Tables) : Type 0 where
  pub sized : Sized t
  pub name : length t.name ≡ 28
  pub names : (i : ℕ) → i < 16 → length (get_or t.devices i beyond_devices).name ≡ 28

-- the parts of an image, each before the rest
segments-then : (s h : ℕ) (a b c rest : List ℕ) → ((((s ∷ []) ++ a) ++ b) ++ (h ∷ []) ++ c) ++ rest ≡ s ∷ (a ++ (b ++ (h ∷ (c ++ rest))))
segments-then s h a b c rest =
    ap (λ (l : List ℕ). s ∷ l) (append_assoc ((a ++ b) ++ (h ∷ [])) c rest ∙ append_assoc (a ++ b) (h ∷ []) (c ++ rest) ∙ append_assoc a b (h ∷ (c ++ rest)))

rows_then : (o k : ℕ) (a b rest : List ℕ) → ((((o ∷ []) ++ a) ++ (k ∷ [])) ++ b) ++ rest ≡ o ∷ (a ++ (k ∷ (b ++ rest)))
rows_then o k a b rest = ap (λ (l : List ℕ). o ∷ l) (append_assoc (a ++ (k ∷ [])) b rest ∙ append_assoc a (k ∷ []) (b ++ rest))

module _ (t : Tables) where
  abbrev cs : List ℕ
  cs = rows_bytes channel_bytes t.channels

  abbrev ds : List ℕ
  ds = rows_bytes device_bytes t.devices

  abbrev default : List ℕ
  default = t.name ++ (t.length ∷ t.unit ∷ [])

  abbrev rows : List ℕ
  rows = t.opened ∷ (cs ++ (t.known ∷ (ds ++ default)))

  abbrev boundaries : List ℕ
  boundaries = u16_bytes t.user ++ (u16_bytes t.room ++ (u16_bytes t.cold ++ rows))

  image-is : image_of t ≡ t.segments ∷ (t.list ++ (t.classes ++ (t.held ∷ (t.chain ++ boundaries))))
  unfolding image_of segment_bytes boundary_bytes row_bytes default_bytes
  image-is =
      append_assoc (segment_bytes t ++ boundary_bytes t) (row_bytes t) (default_bytes t) ∙ append_assoc (segment_bytes t) (boundary_bytes t) (row_bytes t ++ default_bytes t)
      ∙ segments-then t.segments t.held t.list t.classes t.chain (boundary_bytes t ++ (row_bytes t ++ default_bytes t))
      ∙ ap (λ (l : List ℕ). t.segments ∷ (t.list ++ (t.classes ++ (t.held ∷ (t.chain ++ (boundary_bytes t ++ l))))))
      (rows_then t.opened t.known cs ds (default_bytes t) ∙ ap (λ (l : List ℕ). t.opened ∷ (cs ++ (t.known ∷ (ds ++ l)))) (append_assoc t.name (t.length ∷ []) (t.unit ∷ [])))

  module _ (w : FullSize t) where
    named : (i : ℕ) → i < length t.devices → Named (get_or t.devices i beyond_devices)
    named i h = w.names i (omega (arith, w.sized.devices))

    channels-length : length cs ≡ 32 * CHANNEL
    channels-length =
        rows-length channel_told zero_channel t.channels (λ i h. tt) ∙ rw w.sized.channels

    devices-length : length ds ≡ 16 * DEVICE
    devices-length = rows-length device_told beyond_devices t.devices named ∙ rw w.sized.devices

    pub image-length : length (image_of t) ≡ SIZE
    unfolding image_of segment_bytes boundary_bytes row_bytes default_bytes
    image-length =
        simp length-append (omega (arith, w.sized.list, w.sized.classes, w.sized.chain, w.name, channels-length, devices-length))

    -- an image tells the tables
    pub round : tables_of (image_of t) ≡ t
    unfolding tables_of
    round =
        let xs = image_of t in
        let p₀ : At xs SEGMENTS (t.segments ∷ []) (t.list ++ (t.classes ++ (t.held ∷ (t.chain ++ boundaries)))) = record { is = image-is } in
        let p₁ : At xs LIST t.list (t.classes ++ (t.held ∷ (t.chain ++ boundaries))) = next p₀ 1 refl refl in
        let p₂ : At xs CLASSES t.classes (t.held ∷ (t.chain ++ boundaries)) = next p₁ 32 w.sized.list refl in
        let p₃ : At xs HELD (t.held ∷ []) (t.chain ++ boundaries) = next p₂ 32 w.sized.classes refl in
        let p₄ : At xs CHAIN t.chain boundaries = next p₃ 1 refl refl in
        let p₅ : At xs USER (u16_bytes t.user) (u16_bytes t.room ++ (u16_bytes t.cold ++ rows)) = next p₄ 32 w.sized.chain refl in
        let p₆ : At xs ROOM (u16_bytes t.room) (u16_bytes t.cold ++ rows) = next p₅ 2 refl refl in
        let p₇ : At xs COLD (u16_bytes t.cold) rows = next p₆ 2 refl refl in
        let p₈ : At xs OPENED (t.opened ∷ []) (cs ++ (t.known ∷ (ds ++ default))) = next p₇ 2 refl refl in
        let p₉ : At xs CHANNELS cs (t.known ∷ (ds ++ default)) = next p₈ 1 refl refl in
        let q₀ : At xs KNOWN (t.known ∷ []) (ds ++ default) = next p₉ (32 * CHANNEL) channels-length refl in
        let q₁ : At xs DEVICES ds default = next q₀ 1 refl refl in
        let q₂ : At xs NAME t.name (t.length ∷ t.unit ∷ []) = next q₁ (16 * DEVICE) devices-length refl in
        let q₃ : At xs LENGTH (t.length ∷ []) (t.unit ∷ []) = next q₂ 28 w.name refl in
        let q₄ : At xs UNIT (t.unit ∷ []) [] = next q₃ 1 refl refl in
        let c : rows_of channel_from CHANNEL 32 (drop CHANNELS xs) ≡ t.channels =
        ap (rows_of channel_from CHANNEL 32) p₉.is ∙ ap (λ (n : ℕ). rows_of channel_from CHANNEL n (cs ++ (t.known ∷ (ds ++ default)))) (sym w.sized.channels)
        ∙ rows_back channel_told zero_channel t.channels (t.known ∷ (ds ++ default)) (λ i h. tt) in
        let d : rows_of device_from DEVICE 16 (drop DEVICES xs) ≡ t.devices =
        ap (rows_of device_from DEVICE 16) q₁.is ∙ ap (λ (n : ℕ). rows_of device_from DEVICE n (ds ++ default)) (sym w.sized.devices)
        ∙ rows_back device_told beyond_devices t.devices default named in
        rw (u8_is p₀, run_is p₁ 32 w.sized.list, run_is p₂ 32 w.sized.classes, u8_is p₃, run_is p₄ 32 w.sized.chain, u16-is t.user p₅, u16-is t.room p₆, u16-is t.cold p₇, u8_is p₈, c, u8_is q₀, d, run_is q₂ 28 w.name, u8_is q₃, u8_is q₄)

-- the four bytes behind an answer's six are the number moved, which they hold
pub moved_told : (a : Answer) (moved : ℕ) → moved < 4294967296 → u16_at (outcome_bytes a moved) 6 + 65536 * u16_at (outcome_bytes a moved) 8 ≡ moved
unfolding u32_bytes
moved_told a moved h = omega arith

-- The device rows: one more, and those that are built in.
use Rattle.std.specs.Prelude.{◌≡◌, refl, true, List, map, ℕ, ◌+◌, ◌≤◌, ◌<◌, length, get_or, set}
use Rattle.std.proofs.Common.{sym, ◌∙◌, arith, get_or-set_same, get_or-set_other}
use Rattle.std.proofs.Math.Bool.{and-false}
use Rattle.std.proofs.Math.Decide.{ℕ_discrete}
use Rattle.std.proofs.lemmas.List.{length-map}
use Rattle.std.proofs.Math.ListN.{get_or-map}
use Rattle.rows.specs.Definition.Lists.{up_to}
use Rattle.rows.specs.Definition.Devices.{beyond_devices, built_in, disabled_by, added}
use Rattle.rows.specs.Definition.Good.{NameGood, Same, DevicesGood}
use Rattle.rows.specs.Laws.Good.{same-yes, same-no, device-says}
use Rattle.rows.specs.declared.Device.{Device}

turned : {a b : List ℕ} {length-a length-b : ℕ} → Same a length-a b length-b → Same b length-b a length-a
turned e = record { long = sym e.long; bytes = λ k l. sym (e.bytes k l) }

-- a device more, the older of its name disabled
pub devices-more : (ds : List Device) (known : ℕ) (new : Device) → length ds ≡ 16 → known < 16 → NameGood new.name new.length → 1 ≤ new.length → new.enabled ≡ true
    → DevicesGood ds known → DevicesGood (added ds known new) (known + 1)
devices-more ds known new l h w p on g =
    let s = new.name in
    let n = new.length in
    let ms = map (disabled_by s n) ds in
    let here : get_or (set ms known new) known beyond_devices ≡ new = get_or-set_same ms known new beyond_devices (omega (arith, length-map ds (disabled_by s n))) in
    let old : (i : ℕ) → (i ≡ known → ⊥) → get_or (set ms known new) i beyond_devices ≡ disabled_by s n (get_or ds i beyond_devices) =
    λ i q. get_or-set_other ms known i new beyond_devices q ∙ get_or-map (disabled_by s n) ds i beyond_devices in
    let least = g.least in
    record {
      least = omega arith;
      most = omega arith;
      video = rw (old 0 (λ e. omega arith)) g.video;
      net = rw (old 1 (λ e. omega arith)) g.net;
      keyboard = rw (old 2 (λ e. omega arith)) g.keyboard;
      some = λ i a. elim (ℕ_discrete i known) [ yes q ↦ rw (q, here) p | no q ↦ rw (old i q) (g.some i (omega arith)) ];
      names = λ i a. elim (ℕ_discrete i known) [ yes q ↦ rw (q, here) w | no q ↦ rw (old i q) (g.names i (omega arith)) ];
      off = λ i j a b e.
          let o = old i (λ z. omega arith) in
          elim (ℕ_discrete j known) [
            | yes q ↦ rw (o, same-yes _ _ _ _ (turned (rw (q, here, o) at e))) (and-false (get_or ds i beyond_devices).enabled)
            | no q ↦ rw (o, g.off i j a (omega arith) (rw (old j q, o) at e))
          ];
      on = λ i a f. elim (ℕ_discrete i known) [
        | yes q ↦ rw (q, here) on
        | no q ↦
            let d = get_or ds i beyond_devices in
            let apart : Same d.name d.length s n → ⊥ = λ e. f known (omega arith) (omega arith) (rw (here, old i q) (turned e)) in
            rw (old i q, same-no d.name d.length s n apart, g.on i (omega arith) (λ j b c e. f j b (omega arith) (rw (old j (λ z. omega arith), old i q) e)))
      ];
      rest = λ i a b. rw (old i (λ z. omega arith)) (let r = g.rest i (omega arith) b in record { name = r.name; none = r.none; off = rw r.off });
    }

-- the devices that are built in
pub built : DevicesGood built_in 3
unfolding up_to
built = (device-says built_in 3).yes refl

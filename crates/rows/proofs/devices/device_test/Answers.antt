-- `devices::device_test` meets its contract.
use Rattle.std.proofs.Common.{rules, ◌≡◌, ◌≤◌, ◌<◌, ◌∙◌, ℕ, List, length, take, drop, get_or, not, ltb, leb, ◌-◌, ◌+◌, ◌||◌, arith, length-take, get_or-take, Bool, slice_range}
use Rattle.std.proofs.lemmas.Bool.Decides.{nat_tests}
use Rattle.std.specs.List.{list_all, enumerate_from}
use Rattle.rows.specs.declared.Device.{Device}
use Rattle.rows.specs.Definition.Lists.{up_to}
use Rattle.rows.specs.Definition.Devices.{beyond_devices, same_name}
use Rattle.rows.specs.Definition.Tests.{device_fits, device_row, lacks_name, alias_row, empty_device, rest_device}
use Rattle.rows.specs.Laws.Lists.{up_to-same}
use Rattle.rows.proofs.Tests.{first_numbered, all_rest}
use Rattle.rows.proofs.devices.device_test.Goals as goal

-- after i, or not up to i
excused : (i j : ℕ) → ltb j (i + 1) ≡ leb j i
excused i j = grind (arith, nat_tests)

module _ (ds : List Device) (known : ℕ) (l : length ds ≡ 16) where
  later : (i : ℕ) → i < known → known ≤ 16 → lacks_name (slice_range (take known ds) (i + 1) (length (take known ds))) (get_or ds i beyond_devices) ≡ up_to known (alias_row ds i)
  later i h k =
      let d = get_or ds i beyond_devices in
      let p : Device → Bool = λ e. not (same_name e.name e.length d.name d.length) in
      let long : length (take known ds) ≡ known = omega (arith, length-take known ds) in
      rw long
      (all_rest p beyond_devices (take known ds) (i + 1) known long
      ∙ up_to-same known (λ j. ltb j (i + 1) || p (get_or (take known ds) j beyond_devices)) (alias_row ds i) (λ j b. rw (get_or-take known ds j beyond_devices b, excused i j)))

  first : known ≤ 16 → list_all (λ (x : ℕ × Device). device_fits x.1 (slice_range (take known ds) (x.0 + 1) (length (take known ds)))) (enumerate_from 0 (take known ds)) ≡ up_to known (device_row ds known)
  first h =
      first_numbered (λ i d. device_fits d (slice_range (take known ds) (i + 1) (length (take known ds)))) beyond_devices ds known known (device_row ds known) (omega arith) (omega arith)
      (λ i k. rw (later i k h))
      (λ i k b. absurd (omega arith))

  rest : list_all empty_device (take (16 - known) (drop known ds)) ≡ up_to 16 (rest_device ds known)
  rest = all_rest empty_device beyond_devices ds known 16 l

pub returns-then-devices_fine : goal.returns-then-devices_fine
returns-then-devices_fine c =
    let a = first c.args.devices.now c.args.known c.told-devices in
    let b = rest c.args.devices.now c.args.known c.told-devices in
    search (rules, a)

pub returns-else-devices_fine : goal.returns-else-devices_fine
returns-else-devices_fine c =
    let a = first c.args.devices.now c.args.known c.told-devices in
    search (rules, a)

use Rattle.std.proofs.Common.{◌≡◌, sym, ◌∙◌, ap, true, false, List, [], ℕ, ◌+◌, ◌<◌, map, take, drop, ◌++◌, get_or, set, length, arith, length-append, length-take, length-drop}
use Rattle.std.proofs.Math.Bool.{and-false, and-true}
use Rattle.std.proofs.lemmas.List.{get_or_default, length-map}
use Rattle.std.proofs.lemmas.List.Edits.{map_over_more}
use Rattle.rows.specs.declared.Device.{Device}
use Rattle.rows.specs.Definition.Devices.{same_name, enabling, disabled_by}
use Rattle.rows.proofs.devices.disable.Goals as goal
use Rattle.rows.proofs.devices.disable.Goals.{then-is_named, else-is_named}

-- a turn: row i is written where it has the name, and stays where it has another
module _ (s : List ℕ) (n : ℕ) (ds ys : List Device) (i : ℕ) (z : Device) (h : i < length ds) (e : ys ≡ map (disabled_by s n) (take i ds) ++ drop i ds) where
  turn : set ys i (disabled_by s n (get_or ys i z)) ≡ map (disabled_by s n) (take (i + 1) ds) ++ drop (i + 1) ds
  turn =
      let f = disabled_by s n in
      let l : length ys ≡ length ds = rw e (length-append (map f (take i ds)) (drop i ds) ∙ omega (arith, length-map (take i ds) f, length-take i ds, length-drop i ds)) in
      map_over_more f ds ys i (get_or ys i z) h e (get_or_default ys i z (get_or ys i z) (omega arith))

  named : same_name (get_or ys i z).name (get_or ys i z).length s n ≡ true → set ys i (enabling (get_or ys i z) false) ≡ map (disabled_by s n) (take (i + 1) ds) ++ drop (i + 1) ds
  named t =
      let x = get_or ys i z in
      let f : disabled_by s n x ≡ enabling x false = rw (t, and-false x.enabled) in
      ap (λ (d : Device). set ys i d) (sym f) ∙ turn

  other : same_name (get_or ys i z).name (get_or ys i z).length s n ≡ false → set ys i (get_or ys i z) ≡ map (disabled_by s n) (take (i + 1) ds) ++ drop (i + 1) ds
  other t =
      let x = get_or ys i z in
      let f : disabled_by s n x ≡ x = rw (t, and-true x.enabled) in
      ap (λ (d : Device). set ys i d) (sym f) ∙ turn

pub loop-d-preserved : goal.loop-d-preserved
loop-d-preserved c =
    let l = c.loop-d in
    let z : Device = record { name = []; length = 0; enabled = false } in
    elim c.if-is_named.branch [
      | then-is_named w ↦ rw w.d-items-is (named c.args.name.now c.args.n c.args.devices.now l.d-items l.d-index z (omega arith) l.invariant (sym c.is_named.ensures ∙ w.if-is_named.true))
      | else-is_named w ↦ rw w.d-items-is (other c.args.name.now c.args.n c.args.devices.now l.d-items l.d-index z (omega arith) l.invariant (sym c.is_named.ensures ∙ w.if-is_named.false))
    ]

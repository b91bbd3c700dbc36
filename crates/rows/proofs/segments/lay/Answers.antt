-- `segments::lay` meets its contract.
use Rattle.std.proofs.Common.{rules, ◌≡◌, ap, List, ◌++◌, ℕ, ◌-◌, min, length, take, replicate, arith, length-take}
use Rattle.std.proofs.lemmas.List.{drop-replicate, take_min}
use Rattle.rows.specs.Definition.Lists.{padded}
use Rattle.rows.proofs.segments.lay.Goals as goal

laid : (s front rest : List ℕ) (n : ℕ) → n ≡ min (length s) 32 → front ≡ take n s → rest ≡ replicate (32 - n) 0 → front ++ rest ≡ padded 32 (take 32 s)
laid s front rest n e f r =
    let m : min 32 (length s) ≡ n = omega arith in
    let long : length (take 32 s) ≡ n = omega (arith, length-take 32 s) in
    rw (f, r, long) (ap (λ (w : List ℕ). w ++ replicate (32 - n) 0) (rw m at (take_min 32 s)))

pub returns : goal.returns
returns c = laid c.args.s.now c.copy_from_slice.new.self _ c.min-n.result c.min-n.ensures (search rules) (drop-replicate c.min-n.result 32 0)

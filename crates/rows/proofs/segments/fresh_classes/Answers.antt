-- `segments::fresh_classes` meets its contract.
use Rattle.std.proofs.Common.{rules, ◌≡◌, ◌∙◌, ap, List, ◌∷◌, ◌++◌, ℕ, suc, ◌-◌, ◌≤◌, set, replicate, arith}
use Rattle.std.proofs.Math.Seq.{set-append_seam}
use Rattle.std.proofs.lemmas.List.{drop-replicate, length-replicate}
use Rattle.rows.specs.Definition.Classes.{FREE, SYSTEM, start_classes}
use Rattle.rows.proofs.segments.fresh_classes.Goals as goal

started : (n : ℕ) (free rest : List ℕ) → 2 ≤ n → n ≤ 32 → free ≡ replicate (n - 2) FREE → rest ≡ replicate (33 - n) 0 → set (0 ∷ (free ++ rest)) (n - 1) SYSTEM ≡ start_classes n
started n free rest low high f r =
    let k : ℕ = n - 2 in
    let a : n - 1 ≡ suc k = omega arith in
    let b : 33 - n ≡ suc (32 - n) = omega arith in
    let l = length-replicate {A = ℕ} k FREE in
    rw (f, r, a, b) (ap (λ (w : List ℕ). 0 ∷ w) (rw l at (set-append_seam (replicate k FREE) 0 (replicate (32 - n) 0) SYSTEM)))

pub returns : goal.returns
returns c =
    let n = c.args.n in
    let k : n - 1 - 1 ≡ n - 2 = omega arith in
    let e : 31 - (n - 1 - 1) ≡ 33 - n = omega arith in
    started n c.fill.new.self _ c.requires.0 c.requires.1 (search rules) (drop-replicate (n - 1 - 1) 31 0 ∙ ap (λ (m : ℕ). replicate m 0) e)

-- Laws of what a request brings.
use mathlib.Core.Path.{◌≡◌, refl, ap, ◌∙◌}
use mathlib.Core.List.{List, ◌++◌}
use Prim.Native.Nat.{ℕ, zero, suc, ◌≤◌}
use lib.ListN.{length, take, drop}
use lib.Seq.{take_at, drop_at, length-take-le}
use Rattle.stream.specs.Definition.Seed.{next, seeded}

seeded-length : (n x : ℕ) → length (seeded n x) ≡ n
seeded-length zero x = refl
seeded-length (suc n) x = ap suc (seeded-length n (next x))

-- the first bytes of a RAM that were lent and filled
pub filled : (ram part rest : List ℕ) (size seed n x : ℕ) → size ≤ length ram → part ≡ seeded (length (take size ram)) seed → size ≡ n → seed ≡ x → take size (part ++ rest) ≡ seeded n x
filled ram part rest size seed n x h p e f =
    let l : length (take size ram) ≡ size = length-take-le size ram h in
    let q : part ≡ seeded size seed = p ∙ rw l in
    take_at part rest size (ap length q ∙ seeded-length size seed) ∙ q ∙ rw (e, f)

-- and what lies behind them
pub behind : (ram part rest : List ℕ) (size seed : ℕ) → size ≤ length ram → part ≡ seeded (length (take size ram)) seed → drop size (part ++ rest) ≡ rest
behind ram part rest size seed h p =
    let l : length (take size ram) ≡ size = length-take-le size ram h in
    drop_at part rest size (ap length p ∙ seeded-length (length (take size ram)) seed ∙ l)

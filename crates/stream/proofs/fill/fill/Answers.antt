use Rattle.std.proofs.Common.{◌≡◌, ◌+◌, ◌*◌, ◌/◌, ◌%◌, ◌-◌, ◌<◌, ℕ, suc, List, ◌∷◌, ◌++◌, length, take, set, arith, append_assoc}
use Rattle.std.proofs.lemmas.List.{take_more_set}
use Rattle.stream.specs.Definition.Seed.{next, seeded}
use Rattle.stream.proofs.fill.fill.Goals as goal

-- with the byte v at i, i more of ys are laid
lay : (xs : List ℕ) (i v : ℕ) (rest ys : List ℕ) → i < length xs → take i xs ++ (v ∷ rest) ≡ ys → take (i + 1) (set xs i v) ++ rest ≡ ys
lay xs i v rest ys h e = rw (take_more_set xs i v h, append_assoc) e

seeded_more : (n i x : ℕ) → i < n → seeded (n - i) x ≡ next x / 16777216 ∷ seeded (n - (i + 1)) (next x)
seeded_more n i x h = let e : n - i ≡ suc (n - (i + 1)) = omega arith in rw e

pub loop-byte-preserved : goal.loop-byte-preserved
unfolding next
loop-byte-preserved c =
    let l = c.loop-byte in
    let i = l.byte-index in
    let n = length c.args.ram.now in
    let e : (l.x * 1664525 % 4294967296 + 1013904223) % 4294967296 ≡ (l.x * 1664525 + 1013904223) % 4294967296 = omega arith in
    rw e (lay l.ram i (next l.x / 16777216) (seeded (n - (i + 1)) (next l.x)) (seeded n c.args.seed) (omega arith) (rw (seeded_more n i l.x (omega arith)) at l.invariant))

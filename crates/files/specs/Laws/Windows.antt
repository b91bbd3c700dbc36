-- The bytes of a buffer that are read and not yet used: from `from` up to `filled`. And that moving them leaves one buffer.
use Rattle.std.specs.Prelude.{◌≡◌, List, ℕ, ◌+◌, ◌-◌, ◌≤◌, length, take, drop}
use Rattle.std.proofs.Common.{sym, ap, ◌∙◌, arith, length-drop, take-append-drop, length-take-le, take-add, drop_at, drop-drop}

module _ (buf : List ℕ) (from filled taken : ℕ) (h : from ≤ filled) (l : filled ≤ length buf) where
  part_length : length (take (filled - from) (drop from buf)) ≡ filled - from
  part_length = length-take-le (filled - from) (drop from buf) (rw length-drop (omega arith))

  pub start-within : taken ≤ length (take (filled - from) (drop from buf)) → from + taken ≤ filled
  start-within t = omega (arith, part_length)

  -- how many are left once `taken` of them are used
  pub left-length : length (drop taken (take (filled - from) (drop from buf))) ≡ filled - from - taken
  left-length = omega (arith, length-drop taken (take (filled - from) (drop from buf)), part_length)

  -- what is left begins where the used ones end
  pub left-in-hand : from + taken ≤ filled → take (filled - (from + taken)) (drop (from + taken) buf) ≡ drop taken (take (filled - from) (drop from buf))
  left-in-hand k =
      let rest = filled - (from + taken) in
      let m : filled - from ≡ taken + rest = omega arith in
      let n : length (take taken (drop from buf)) ≡ taken = length-take-le taken (drop from buf) (rw length-drop (omega arith)) in
      sym (rw (m, take-add taken rest (drop from buf)) (drop_at (take taken (drop from buf)) (take rest (drop taken (drop from buf))) taken n ∙ ap (take rest) (drop-drop taken from buf)))

-- bytes that are moved to the front
pub one_kept : (buf buf' buf'' : List ℕ) (from n : ℕ) → (take n buf' ≡ take n (drop from buf)) × (drop n buf' ≡ drop n buf)
    → (take n buf'' ≡ take n (drop from buf)) × (drop n buf'' ≡ drop n buf) → buf' ≡ buf''
one_kept buf buf' buf'' from n p q = sym (take-append-drop n buf') ∙ rw (p.0 ∙ sym q.0, p.1 ∙ sym q.1) (take-append-drop n buf'')

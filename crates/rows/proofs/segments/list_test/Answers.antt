-- `segments::list_test` meets its contract.
use Rattle.std.proofs.Common.{rules, ◌≡◌, ◌∙◌, ◌≤◌, ℕ, List, eqb, ltb, length, take, drop, ◌-◌, ◌+◌, arith, le-leb, length-take, get_or-take}
use Rattle.std.proofs.lemmas.Bool.{lt-leb}
use Rattle.std.specs.List.{list_all}
use Rattle.rows.specs.Definition.Lists.{at, up_to}
use Rattle.rows.specs.Definition.Tests.{rise_row, rest_row}
use Rattle.rows.specs.Laws.Lists.{up_to-same, up_to-rest}
use Rattle.rows.proofs.Tests.{all_rest}
use Rattle.rows.proofs.segments.list_test.Goals as goal

module _ (xs : List ℕ) (n : ℕ) (l : length xs ≡ 32) where
  first : 2 ≤ n → n ≤ 32 → up_to (length (take n xs) - 1) (λ i. ltb (at (take n xs) i) (at (take n xs) (i + 1))) ≡ up_to 31 (rise_row xs n)
  first h k =
      let long : length (take n xs) - 1 ≡ n - 1 = omega (arith, length-take n xs) in
      rw long
      (up_to-same (n - 1) (λ i. ltb (at (take n xs) i) (at (take n xs) (i + 1))) (rise_row xs n)
      (λ i b. rw (get_or-take n xs i 0 (omega arith), get_or-take n xs (i + 1) 0 (omega arith), lt-leb n (i + 1) (omega arith)))
      ∙ up_to-rest (n - 1) 31 (rise_row xs n) (omega arith) (λ i a b. rw (le-leb n (i + 1) (omega arith))))

  rest : list_all (λ (x : ℕ). eqb x 0) (take (32 - n) (drop n xs)) ≡ up_to 32 (rest_row xs n)
  rest = all_rest (λ (x : ℕ). eqb x 0) 0 xs n 32 l

pub returns-then-list-n : goal.returns-then-list-n
returns-then-list-n c =
    let a = first c.args.list.now c.args.n c.told-list in
    let b = rest c.args.list.now c.args.n c.told-list in
    search (rules, a)

pub returns-else-list-n : goal.returns-else-list-n
returns-else-list-n c =
    let a = first c.args.list.now c.args.n c.told-list in
    search (rules, a)

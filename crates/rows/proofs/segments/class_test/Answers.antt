-- `segments::class_test` meets its contract.
use Rattle.std.proofs.Common.{rules, ◌≡◌, ◌≤◌, ℕ, List, eqb, length, take, drop, ◌-◌, arith, le-leb}
use Rattle.std.proofs.lemmas.Bool.{lt-leb}
use Rattle.std.specs.List.{list_all, enumerate_from}
use Rattle.rows.specs.Definition.Lists.{up_to}
use Rattle.rows.specs.Definition.Tests.{class_fits, class_row, rest_row}
use Rattle.rows.proofs.Tests.{first_numbered, all_rest}
use Rattle.rows.proofs.segments.class_test.Goals as goal

module _ (cs : List ℕ) (n : ℕ) (l : length cs ≡ 32) (h : n ≤ 32) where
  first : list_all (λ (x : ℕ × ℕ). class_fits x.0 x.1) (enumerate_from 0 (take n cs)) ≡ up_to 32 (class_row cs n)
  first = first_numbered class_fits 0 cs n 32 (class_row cs n) (omega arith) h (λ i k. rw (lt-leb n i k)) (λ i k b. rw (le-leb n i k))

  rest : list_all (λ (x : ℕ). eqb x 0) (take (32 - n) (drop n cs)) ≡ up_to 32 (rest_row cs n)
  rest = all_rest (λ (x : ℕ). eqb x 0) 0 cs n 32 l

pub returns-then-classed : goal.returns-then-classed
returns-then-classed c =
    let a = first c.args.classes.now c.args.n c.told-classes c.requires in
    let b = rest c.args.classes.now c.args.n c.told-classes c.requires in
    search rules

pub returns-else-classed : goal.returns-else-classed
returns-else-classed c =
    let a = first c.args.classes.now c.args.n c.told-classes c.requires in
    search rules

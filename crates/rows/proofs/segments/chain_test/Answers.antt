-- `segments::chain_test` meets its contract.
use Rattle.std.proofs.Common.{rules, ◌≡◌, ◌≤◌, ℕ, List, eqb, ltb, length, take, drop, ◌-◌, arith, le-leb, length-take, get_or-take}
use Rattle.std.proofs.lemmas.Bool.{lt-leb}
use Rattle.std.specs.List.{list_all, enumerate_from}
use Rattle.rows.specs.Definition.Lists.{at, tally, up_to}
use Rattle.rows.specs.Definition.Tests.{stands, exact_row, chain_row, rest_row}
use Rattle.rows.proofs.Tests.{all_rows, first_numbered, all_rest}
use Rattle.rows.proofs.segments.chain_test.Goals as goal

module _ (cs chain : List ℕ) (held n : ℕ) (l : length cs ≡ 32) (m : length chain ≡ 32) (h : held ≤ 32) (k : n ≤ 32) where
  first : list_all (λ (x : ℕ). ltb x n) (take held chain) ≡ up_to 32 (chain_row chain held n)
  first =
      let long : length (take held chain) ≡ held = omega (arith, length-take held chain) in
      all_rows (λ (x : ℕ). ltb x n) 0 (take held chain) 32 (chain_row chain held n) (omega arith)
      (λ i a. rw (get_or-take held chain i 0 (omega arith), lt-leb held i (omega arith)))
      (λ i a b. rw (le-leb held i (omega arith)))

  same : (last : ℕ) → list_all (λ (x : ℕ × ℕ). stands x.1 (tally x.0 (take held chain)) last x.0) (enumerate_from 0 (take n cs)) ≡ up_to 32 (exact_row cs chain held last n)
  same last =
      first_numbered (λ i class. stands class (tally i (take held chain)) last i) 0 cs n 32 (exact_row cs chain held last n) (omega arith) k
      (λ i a. rw (lt-leb n i a)) (λ i a b. rw (le-leb n i a))

  rest : list_all (λ (x : ℕ). eqb x 0) (take (32 - held) (drop held chain)) ≡ up_to 32 (rest_row chain held)
  rest = all_rest (λ (x : ℕ). eqb x 0) 0 chain held 32 m

pub returns-then-exact : goal.returns-then-exact
returns-then-exact c =
    let chain = c.args.chain.now in
    let held = c.args.held in
    let a = first c.args.classes.now chain held c.args.n c.told-classes c.told-chain c.requires.1 c.requires.3 in
    let b = same c.args.classes.now chain held c.args.n c.told-classes c.told-chain c.requires.1 c.requires.3 (at chain (held - 1)) in
    let d = rest c.args.classes.now chain held c.args.n c.told-classes c.told-chain c.requires.1 c.requires.3 in
    let low = le-leb 1 held c.requires.0 in
    let high = le-leb held 32 c.requires.1 in
    search rules

pub returns-else-exact : goal.returns-else-exact
returns-else-exact c =
    let chain = c.args.chain.now in
    let held = c.args.held in
    let a = first c.args.classes.now chain held c.args.n c.told-classes c.told-chain c.requires.1 c.requires.3 in
    let b = same c.args.classes.now chain held c.args.n c.told-classes c.told-chain c.requires.1 c.requires.3 (at chain (held - 1)) in
    search rules

-- `parse` reads what stands before the first colon where a file stands after it.
use Rattle.std.proofs.Common.{◌+◌, ◌≡◌, sym, ◌∙◌, true, length, take, drop, length-take-le, le-leb, ne_eqb, arith, Option, ℕ, ◌≤◌, List}
use Rattle.names.specs.Definition.Tests.{run_of, file_test}
use Rattle.names.specs.Definition.Read.{with_head, with_colon, reading}
use Rattle.names.specs.Definition.Parts.{parts_of}
use Rattle.names.specs.Laws.Runs.{run-le}
use Rattle.names.specs.declared.Kind.TheVariants.{BeforeColon}
use Rattle.names.specs.declared.Parts.{Parts}
use Rattle.names.proofs.Steps.{part-from}
use Rattle.names.proofs.parse.Goals as goal

colon-read : (s : List ℕ) (r : Option Parts) → length s ≤ 255 → ¬ (run_of BeforeColon s ≡ length s) → file_test (drop (run_of BeforeColon s + 1) s) ≡ true
    → r ≡ parts_of (with_head (take (run_of BeforeColon s) s) (drop (run_of BeforeColon s + 1) s)) → r ≡ parts_of (reading s)
unfolding reading with_colon
colon-read s r h e t a = rw (le-leb (length s) 255 h, ne_eqb (run_of BeforeColon s) (length s) e, t) a

pub returns : goal.returns
returns c =
    let s = c.args.s.now in
    let run = c.run-colon in
    let n = run.result in
    let l : length (take n s) ≡ n = length-take-le n s (omega (arith, run-le BeforeColon s)) in
    let file : file_test (drop (n + 1) s) ≡ true = rw (part-from (n + 1) s) at (sym c.is_file.ensures ∙ c.if-not-is_file.false) in
    colon-read s _ c.if-s-gt255.false (λ e. c.if-colon-s.false (run.ensures ∙ e)) (rw run.ensures at file)
    (rw (← run.ensures) (c.with_head.ensures (drop (n + 1) s) (omega arith)))

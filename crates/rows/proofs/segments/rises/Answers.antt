-- `segments::rises` meets its contract.
use Rattle.std.proofs.Common.{rules, ◌≡◌, ◌∙◌, sym, ℕ, Bool, true, false, ltb, List, length, ◌-◌, ◌+◌, arith}
use Rattle.std.specs.List.{IsAllAdjacentAnswer}
use Rattle.std.proofs.lemmas.Fn.{always_returns_same}
use Rattle.std.proofs.lemmas.Bool.{false≢true}
use Rattle.rows.specs.Definition.Lists.{at, up_to}
use Rattle.rows.specs.Laws.Lists.{up_to→all, all→up_to, is_false}
use Rattle.rows.proofs.segments.rises.Goals as goal

abbrev rise : List ℕ → ℕ → Bool
rise xs i = ltb (at xs i) (at xs (i + 1))

-- each element and the next were asked, as far as one failed
asked : (xs : List ℕ) (r : Bool) → IsAllAdjacentAnswer (λ x y b. b ≡ ltb x y) xs r → r ≡ up_to (length xs - 1) (rise xs)
asked xs true h = sym (all→up_to (length xs - 1) (rise xs) (λ i l. sym (h i 0 (omega arith))))
asked xs false (i, l, h) = sym (is_false _ (λ t. false≢true (h 0 ∙ up_to→all (length xs - 1) (rise xs) t i (omega arith))))

pub returns : goal.returns
returns c = asked c.args.list.now c.is_sorted_by.result (c.is_sorted_by.ensures.cases ltb (always_returns_same _ _ _ (λ a r q k. search rules)))

-- `channels::total` meets its contract: each record has at most 65,551 bytes.
use Rattle.std.proofs.Common.{rules, ℕ, refl, ◌∙◌, sym, ◌≡◌, ◌+◌, arith}
use Rattle.std.specs.List.{sum_by}
use Rattle.std.specs.Iterator.Runs.{Trigger}
use Rattle.std.proofs.lemmas.Iterator.{YieldsList-from_slice}
use Rattle.std.proofs.lemmas.Iterator.Adapters.{fits_from_length, at_most_from_yields_List}
use Rattle.std.proofs.lemmas.List.Recursion.{is_sum_by}
use Rattle.rows.specs.declared.Channel.{Channel}
use Rattle.rows.specs.Definition.Channels.{sum_of}
use Rattle.rows.proofs.channels.total.Goals as goal

met : (n : ℕ) → Trigger n
unfolding Trigger
met n = tt

pub returns : goal.returns
returns c =
    let cs = c.args.channels.now in
    let f = λ (x : Channel). 16 + x.n in
    let e : c.sum.result ≡ sum_by f cs = search rules in
    let run = c.sum.ensures.runs tt in
    let most = fits_from_length _ _ 32 2097633 (at_most_from_yields_List (YieldsList-from_slice cs cc) c.requires) c.map.ensures.closure (omega arith) (λ x r q k. search rules) run.0 (met _) run.1 in
    (e ∙ sym (is_sum_by sum_of f refl (λ _ _. refl) cs), omega (arith, most, run.3))

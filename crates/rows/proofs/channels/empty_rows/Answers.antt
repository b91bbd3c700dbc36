-- `channels::empty_rows` meets its contract.
use Rattle.std.proofs.Common.{rules, ◌≡◌, sym, ◌∙◌, List, ◌++◌, ℕ, ◌+◌, ◌-◌, ◌≤◌, ◌<◌, length, get_or, drop, replicate, arith, ext_get_or, get_or-drop, length-drop}
use Rattle.std.proofs.lemmas.List.{length-replicate, get_or-replicate, replicate-append-replicate}
use Rattle.rows.specs.declared.Channel.{Channel}
use Rattle.rows.specs.Definition.Channels.{zero_channel}
use Rattle.rows.proofs.channels.empty_rows.Goals as goal

-- empty rows before those that are empty already
emptied : (xs ys : List Channel) (n : ℕ) → length xs ≡ 32 → n ≤ 32 → ((i : ℕ) → n ≤ i → i < 32 → get_or xs i zero_channel ≡ zero_channel) → ys ≡ replicate n zero_channel
    → ys ++ drop n xs ≡ replicate 32 zero_channel
emptied xs ys n l h e r =
    let m : n + (32 - n) ≡ 32 = omega arith in
    let rest : drop n xs ≡ replicate (32 - n) zero_channel =
    ext_get_or zero_channel (drop n xs) (replicate (32 - n) zero_channel) (length-drop n xs ∙ omega (arith, length-replicate {A = Channel} (32 - n) zero_channel))
    (λ k a. get_or-drop n xs k zero_channel ∙ e (n + k) (omega arith) (omega (arith, length-drop n xs)) ∙ sym (get_or-replicate (32 - n) k zero_channel zero_channel (omega (arith, length-drop n xs)))) in
    rw (r, rest, replicate-append-replicate n (32 - n) zero_channel, m)

pub returns : goal.returns
returns c = emptied c.args.channels.now c.fill.new.self c.args.opened c.told-channels c.requires.0 c.requires.1 (search rules)

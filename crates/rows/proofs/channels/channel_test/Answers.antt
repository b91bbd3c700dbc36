-- `channels::channel_test` meets its contract.
use Rattle.std.proofs.Common.{rules, ◌≡◌, ◌≤◌, ℕ, List, length, take, drop, get_or, not, eqb, ◌-◌, arith, length-take, get_or-take, take-take}
use Rattle.std.specs.List.{list_all, enumerate_from}
use Rattle.rows.specs.declared.Channel.{Channel}
use Rattle.rows.specs.Definition.Lists.{up_to}
use Rattle.rows.specs.Definition.Channels.{zero_channel}
use Rattle.rows.specs.Definition.Tests.{channel_fits, channel_row, lacks_number, differ_row, empty_channel, rest_channel}
use Rattle.rows.proofs.Tests.{all_rows, first_numbered, all_rest}
use Rattle.rows.proofs.channels.channel_test.Goals as goal

module _ (cs : List Channel) (opened known : ℕ) (l : length cs ≡ 32) where
  earlier : (i : ℕ) → i ≤ 32 → lacks_number (take i cs) (get_or cs i zero_channel).number ≡ up_to i (differ_row cs i)
  earlier i h =
      let number = (get_or cs i zero_channel).number in
      let long : length (take i cs) ≡ i = omega (arith, length-take i cs) in
      all_rows (λ (c : Channel). not (eqb c.number number)) zero_channel (take i cs) i (differ_row cs i) (omega arith)
      (λ j k. rw (get_or-take i cs j zero_channel (omega arith))) (λ j k b. absurd (omega arith))

  first : opened ≤ 32 → list_all (λ (x : ℕ × Channel). channel_fits (take opened cs) known x.0 x.1) (enumerate_from 0 (take opened cs)) ≡ up_to opened (channel_row cs known)
  first h =
      first_numbered (channel_fits (take opened cs) known) zero_channel cs opened opened (channel_row cs known) (omega arith) (omega arith)
      (λ i k. rw (take-take i opened cs (omega arith), earlier i (omega arith)))
      (λ i k b. absurd (omega arith))

  rest : list_all empty_channel (take (32 - opened) (drop opened cs)) ≡ up_to 32 (rest_channel cs opened)
  rest = all_rest empty_channel zero_channel cs opened 32 l

pub returns-then-channels_fine : goal.returns-then-channels_fine
returns-then-channels_fine c =
    let a = first c.args.channels.now c.args.opened c.args.known c.told-channels in
    let b = rest c.args.channels.now c.args.opened c.args.known c.told-channels in
    search (rules, a)

pub returns-else-channels_fine : goal.returns-else-channels_fine
returns-else-channels_fine c =
    let a = first c.args.channels.now c.args.opened c.args.known c.told-channels in
    search (rules, a)

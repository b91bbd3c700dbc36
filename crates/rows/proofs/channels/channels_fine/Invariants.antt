-- `channels::channels_fine` meets its contract. The loop's invariant: the rows passed fit, and `seen` has their numbers.
use Rattle.std.proofs.Common.{◌≡◌, true, take}
use Rattle.rows.proofs.Numbers.{Seen, fit_to}
use Rattle.rows.proofs.channels.channels_fine.Given as goal

abbrev pub invariant-loop-c : goal.invariant-loop-c
invariant-loop-c l = Seen (take l.c-index l.channels) l.seen × (fit_to l.channels l.known l.c-index ≡ true)

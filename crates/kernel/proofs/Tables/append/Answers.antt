-- `Tables::append` meets its contract.
use Rattle.std.proofs.Common.{arith}
use Rattle.kernel.proofs.NoChange.{grown-none}
use Rattle.kernel.proofs.Growing.{total-most}
use Rattle.kernel.proofs.Opening.{append-held, append-made}
use Rattle.kernel.proofs.Tables.append.Goals as goal

pub overflow_add-size-2 : goal.overflow_add-size-2
overflow_add-size-2 c = omega (arith, total-most _ c.requires.0 _ c.requires.3)

pub chain_length-requires : goal.chain_length-requires
chain_length-requires c = omega (arith, total-most _ c.requires.0 _ c.requires.3)

pub returns-then-more-eq0 : goal.returns-then-more-eq0
returns-then-more-eq0 c =
    append-made c.args.self c.args.c _ _ _ _ _ c.requires.3 c.from.ensures c.chain_length.ensures c.from-2.ensures c.saturating_sub-more.ensures
    _ _ c.from-3.ensures (grown-none _ _ c.if-more-eq0.true)

pub grow-requires : goal.grow-requires
grow-requires c =
    append-held c.args.self c.args.c _ _ _ _ _ c.requires.3 c.from.ensures c.chain_length.ensures c.from-2.ensures c.saturating_sub-more.ensures
    c.requires.0 c.requires.1 c.requires.2

pub returns : goal.returns
returns c =
    append-made c.args.self c.args.c _ _ _ _ _ c.requires.3 c.from.ensures c.chain_length.ensures c.from-2.ensures c.saturating_sub-more.ensures
    _ _ c.from-3.ensures c.grow.ensures

-- `Tables::add_device` meets its contract.
use Rattle.std.proofs.Common.{arith}
use Rattle.kernel.proofs.NoChange.{grown-none}
use Rattle.kernel.proofs.Growing.{total-most}
use Rattle.kernel.proofs.Linking.{device-held, device-made}
use Rattle.kernel.proofs.Tables.add_device.Goals as goal

pub chain_length-requires : goal.chain_length-requires
chain_length-requires c = omega (arith, total-most _ c.requires.0 _ c.requires.2)

pub returns-then-more-eq0 : goal.returns-then-more-eq0
returns-then-more-eq0 c =
    device-made c.args.self c.args.m _ _ _ _ _ c.requires.2 c.chain_length.ensures c.from.ensures c.saturating_sub-more.ensures _ _ _
    c.disable.ensures c.from-2.ensures (grown-none _ _ c.if-more-eq0.true)

pub grow-requires : goal.grow-requires
grow-requires c =
    device-held c.args.self c.args.m _ _ _ _ _ c.requires.2 c.chain_length.ensures c.from.ensures c.saturating_sub-more.ensures c.requires.0 c.requires.1

pub returns : goal.returns
returns c =
    device-made c.args.self c.args.m _ _ _ _ _ c.requires.2 c.chain_length.ensures c.from.ensures c.saturating_sub-more.ensures _ _ _
    c.disable.ensures c.from-2.ensures c.grow.ensures

-- `Tables::link_good` meets its contract.
use Rattle.std.proofs.Common.{ap, ◌∙◌}
use Rattle.kernel.specs.Definition.Devices.{linking}
use Rattle.kernel.proofs.Refusing.{quietly}
use Rattle.kernel.proofs.Linking.{link-unnamed, is_name, link-full, link-none, link-answer, links-of, link-chain, link-done}
use Rattle.kernel.proofs.Tables.link_good.Goals as goal

pub returns-then-not-link_name : goal.returns-then-not-link_name
returns-then-not-link_name c = quietly c.args.self _ _ _ _ c.refuse.ensures (link-unnamed _ _ _ c.if-not-link_name.ensures) _

pub returns-then-self-ge16 : goal.returns-then-self-ge16
returns-then-self-ge16 c = quietly c.args.self _ _ _ _ c.refuse-then-self-ge16.ensures (link-full _ _ _ c.if-not-link_name.ensures c.if-self-ge16.true) _

pub returns-then-not-room_to_link : goal.returns-then-not-room_to_link
returns-then-not-room_to_link c =
    quietly c.args.self _ _ _ _ c.refuse-then-not-room_to_link.ensures
    (link-none _ _ _ c.if-not-link_name.ensures c.if-self-ge16.false c.if-not-room_to_link.ensures) _

pub device_named-requires : goal.device_named-requires
device_named-requires c = (is_name _ c.if-not-link_name.ensures).1

pub add_device-next-requires : goal.add_device-next-requires
add_device-next-requires c =
    (c.requires.0, rw c.device_named.ensures (links-of _ _ _ c.if-not-link_name.ensures c.if-self-ge16.false c.if-not-room_to_link.ensures), c.total-total.ensures.0)

pub link_line-moved-requires : goal.link_line-moved-requires
link_line-moved-requires c =
    link-chain c.args.self _ _ c.requires.0 (links-of _ _ c.args.name.now c.if-not-link_name.ensures c.if-self-ge16.false c.if-not-room_to_link.ensures) _
    (c.add_device-next.ensures ∙ ap (linking _ _) c.device_named.ensures) _ c.line-line.ensures _ _ _ c.from.ensures c.from-2.ensures
    c.total-total.ensures.0 _ c.requires.1

pub returns : goal.returns
returns c =
    λ out. link-done c.args.self _ _ c.requires.0 (links-of _ _ c.args.name.now c.if-not-link_name.ensures c.if-self-ge16.false c.if-not-room_to_link.ensures) _
    (c.add_device-next.ensures ∙ ap (linking _ _) c.device_named.ensures) _ c.line-line.ensures _ _ _ c.from.ensures c.from-2.ensures
    c.total-total.ensures.0 _ _ _ out _ c.link_line-moved.ensures.bytes c.link_line-moved.ensures.moved.0
    (link-answer _ _ _ c.if-not-link_name.ensures c.if-self-ge16.false c.if-not-room_to_link.ensures)

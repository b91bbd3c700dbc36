-- `store_good` meets its contract: each refusal and the store are a branch of `on_store`, and the bytes lie in their segment.
use Rattle.kernel.proofs.Spans.{reach_inside}
use Rattle.kernel.proofs.Accessing.{store_other, store_beyond, store_guarded, store_done}
use Rattle.kernel.proofs.Tables.store_good.Goals as goal

pub returns-in_default : goal.returns-in_default
returns-in_default c = rw c.refuse.ensures (store_other _ _ c.args.bytes.now _ _ c.in_default.ensures)

pub returns-then-beyond : goal.returns-then-beyond
returns-then-beyond c =
    rw c.refuse-then-beyond.ensures
    (store_beyond _ _ c.args.bytes.now _ _ _ c.requires.0 c.in-Some.ensures _ _ c.reach_of.ensures c.from-from.ensures c.if-beyond.ensures)

pub guards-requires : goal.guards-requires
guards-requires c = (reach_inside _ _ _ _ _ _ _ c.requires.0 c.in-Some.ensures c.reach_of.ensures c.if-beyond.ensures c.requires.1).1

pub returns-then-guards : goal.returns-then-guards
returns-then-guards c =
    rw c.refuse-then-guards.ensures
    (store_guarded _ _ c.args.bytes.now _ _ _ c.requires.0 c.in-Some.ensures _ _ c.reach_of.ensures c.from-from.ensures c.if-beyond.ensures c.if-guards.ensures)

pub store-requires : goal.store-requires
store-requires c = (reach_inside _ _ _ _ _ _ _ c.requires.0 c.in-Some.ensures c.reach_of.ensures c.if-beyond.ensures c.requires.1).0

pub returns : goal.returns
returns c =
    store_done _ _ c.args.bytes.now _ _ _ c.requires.0 c.in-Some.ensures _ _ c.reach_of.ensures c.from-from.ensures c.if-beyond.ensures c.if-guards.ensures _ c.store.ensures _ c.done.ensures

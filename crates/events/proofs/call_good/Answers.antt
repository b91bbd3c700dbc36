-- `events::call_good` meets its contract.
use Rattle.events.specs.declared.kinds.Kind.TheVariants.{Reset, Open, Close, Read, Write, Default, Status, Link, Boundary, SetUserBoundary, Allocate, Free, LoadModule, Start, Store, Load}
use Rattle.events.proofs.ByKind.{by_kind, no_kind}
use Rattle.events.proofs.call_good.Goals as goal

pub returns-in_default : goal.returns-in_default
returns-in_default c = no_kind _ _ _ _ _ c.requires.0 c.requires.1 c.in_default.ensures _ c.refuse.ensures

pub returns-in-Reset : goal.returns-in-Reset
returns-in-Reset c = by_kind _ _ _ _ _ Reset _ c.in-Ok.ensures c.in-Reset.is (c.reset_event.ensures _)

pub returns-in-Open : goal.returns-in-Open
returns-in-Open c = by_kind _ _ _ _ _ Open _ c.in-Ok.ensures c.in-Open.is (c.open_event.ensures _)

pub returns-in-Close : goal.returns-in-Close
returns-in-Close c = by_kind _ _ _ _ _ Close _ c.in-Ok.ensures c.in-Close.is (c.close_event.ensures _)

pub returns-in-Read : goal.returns-in-Read
returns-in-Read c = by_kind _ _ _ _ _ Read _ c.in-Ok.ensures c.in-Read.is c.read_event.ensures

pub returns-in-Write : goal.returns-in-Write
returns-in-Write c = by_kind _ _ _ _ _ Write _ c.in-Ok.ensures c.in-Write.is (c.write_event.ensures _)

pub returns-in-Default : goal.returns-in-Default
returns-in-Default c = by_kind _ _ _ _ _ Default _ c.in-Ok.ensures c.in-Default.is (c.default_event.ensures _ _ c.requires.1)

pub returns-in-Status : goal.returns-in-Status
returns-in-Status c = by_kind _ _ _ _ _ Status _ c.in-Ok.ensures c.in-Status.is (c.status_event.ensures _ c.requires.1)

pub returns-in-Link : goal.returns-in-Link
returns-in-Link c = by_kind _ _ _ _ _ Link _ c.in-Ok.ensures c.in-Link.is (c.link_event.ensures _)

pub returns-in-Boundary : goal.returns-in-Boundary
returns-in-Boundary c = by_kind _ _ _ _ _ Boundary _ c.in-Ok.ensures c.in-Boundary.is (c.boundary_event.ensures _ _ c.requires.1)

pub returns-in-SetUserBoundary : goal.returns-in-SetUserBoundary
returns-in-SetUserBoundary c = by_kind _ _ _ _ _ SetUserBoundary _ c.in-Ok.ensures c.in-SetUserBoundary.is (c.set_user_boundary_event.ensures _ _ c.requires.1)

pub returns-in-Allocate : goal.returns-in-Allocate
returns-in-Allocate c = by_kind _ _ _ _ _ Allocate _ c.in-Ok.ensures c.in-Allocate.is (c.allocate_event.ensures _ _ c.requires.1)

pub returns-in-Free : goal.returns-in-Free
returns-in-Free c = by_kind _ _ _ _ _ Free _ c.in-Ok.ensures c.in-Free.is (c.free_event.ensures _ _ c.requires.1)

pub returns-in-LoadModule : goal.returns-in-LoadModule
returns-in-LoadModule c = by_kind _ _ _ _ _ LoadModule _ c.in-Ok.ensures c.in-LoadModule.is (c.load_module_event.ensures _)

pub returns-in-Start : goal.returns-in-Start
returns-in-Start c = by_kind _ _ _ _ _ Start _ c.in-Ok.ensures c.in-Start.is (c.start_event.ensures _)

pub returns-in-Store : goal.returns-in-Store
returns-in-Store c = by_kind _ _ _ _ _ Store _ c.in-Ok.ensures c.in-Store.is (c.store_event.ensures _)

pub returns-in-Load : goal.returns-in-Load
returns-in-Load c = by_kind _ _ _ _ _ Load _ c.in-Ok.ensures c.in-Load.is c.load_event.ensures

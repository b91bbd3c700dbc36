-- `load_module_good` meets its contract: each refusal and the load are a branch of `on_load_module`; the judging leaves the RAM as it is.
use Rattle.kernel.proofs.Loading.{start-refused, module-other, module-refused, module-done}
use Rattle.kernel.proofs.Tables.load_module_good.Goals as goal

pub returns-then-past_range : goal.returns-then-past_range
returns-then-past_range c = start-refused c.args.self _ c.args.stream.now c.args.segment _ _ c.if-past_range.ensures _ c.refuse.ensures

pub returns-in_default : goal.returns-in_default
returns-in_default c = module-other c.args.self _ c.args.stream.now c.args.segment _ _ c.if-past_range.ensures c.in_default.ensures _ c.refuse-in_default.ensures

pub returns-in-Ok : goal.returns-in-Ok
returns-in-Ok c =
    module-done c.args.self _ c.args.stream.now c.args.segment _ _ _ _ c.if-past_range.ensures c.requires.0 c.in-Some.ensures c.reach_of-reach.ensures
    _ c.in-Ok.ensures.judges _ _ c.read.ensures.stores c.read-in-Ok.ensures.stores _ c.done.ensures

pub returns-in-Err : goal.returns-in-Err
returns-in-Err c =
    module-refused c.args.self _ c.args.stream.now c.args.segment _ _ _ _ c.if-past_range.ensures c.requires.0 c.in-Some.ensures c.reach_of-reach.ensures
    _ c.in-Err.ensures.judges _ c.from.ensures _ c.refuse-in-Err.ensures _ c.read.ensures.stores

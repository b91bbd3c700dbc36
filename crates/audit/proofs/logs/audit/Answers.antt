-- `audit::audit` meets its contract.
use Rattle.audit.proofs.Wholes.{log-over, log-fault}
use Rattle.audit.proofs.logs.audit.Goals as goal

pub returns-in-Ok : goal.returns-in-Ok
returns-in-Ok c = let j = c.judge-j in log-over _ c.«none».ensures c.args.log.now j.result _ _ j.ensures.0 c.in-Ok.is _ c.end.ensures

pub returns-in-Err : goal.returns-in-Err
returns-in-Err c = let j = c.judge-j in log-fault _ c.«none».ensures c.args.log.now j.result _ _ j.ensures.0 _ c.in-Err.is

use Rattle.targetd.proofs.Ending.{unbound_told}
use Rattle.targetd.proofs.run.listen.Goals as goal

pub returns-in-Err-clause-fault : goal.returns-in-Err-clause-fault
returns-in-Err-clause-fault g c = rw c.from.ensures (unbound_told _ _ _ c.in-Err.fault c.in-Err.ensures.explained)

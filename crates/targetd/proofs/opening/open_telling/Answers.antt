use Rattle.std.proofs.Common.{◌∙◌}
use Rattle.targetd.proofs.Made.{unopened_told}
use Rattle.targetd.proofs.opening.open_telling.Goals as goal

pub returns-in-Ok : goal.returns-in-Ok
returns-in-Ok g c = record {
  listen = rw c.setup_of.ensures.listen c.in-Ok.ensures.listen;
  log = c.setup_of.ensures.log ∙ c.in-Ok.ensures.log;
  names = rw c.setup_of.ensures.names c.in-Ok.ensures.names;
  units = rw c.setup_of.ensures.units c.in-Ok.ensures.units;
  fault = tt;
}

pub returns-in-Err-clause-fault : goal.returns-in-Err-clause-fault
returns-in-Err-clause-fault g c = rw c.from.ensures (unopened_told _ _ _ c.in-Err.fault c.in-Err.ensures.fault)

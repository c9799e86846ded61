use Rattle.std.proofs.Common.{rules}
use Rattle.media_store.proofs.fault.counted.Goals as goal

pub returns-clause-failures : goal.returns-clause-failures
returns-clause-failures g c = search rules

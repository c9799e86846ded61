use Rattle.std.proofs.Common.{not, rules}
use Rattle.std.proofs.lemmas.Fn.{filter_same}
use Rattle.scsi_sense.specs.Nexus.{same_nexus}
use Rattle.scsi_conflict.specs.declared.registration.Row.{Row}
use Rattle.scsi_conflict.proofs.registration.take_out.Goals as goal

pub returns-clause-left : goal.returns-clause-left
returns-clause-left c =
    filter_same _ (λ (row : Row). not (same_nexus row.nexus c.args.nexus.now)) _ (λ row keeps f called. search rules) _ _ c.retain.ensures.filtered

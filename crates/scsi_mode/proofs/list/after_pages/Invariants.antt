use Rattle.std.proofs.Common.{◌≡◌, length}
use Rattle.scsi_mode.specs.ParameterList.{after_pages}
use Rattle.scsi_mode.proofs.list.after_pages.Given as goal

-- what the pages left bring is what all of them do
abbrev pub invariant-loop-rest : goal.invariant-loop-rest
invariant-loop-rest l = after_pages l.after l.rest ≡ after_pages l.fn.parameters l.fn.list

abbrev pub decreases-loop-rest : goal.decreases-loop-rest
decreases-loop-rest l = length l.rest

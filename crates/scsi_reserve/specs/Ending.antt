-- The outcome of PERSISTENT RESERVE OUT.
use Rattle.std.specs.Prelude.{List, []}
use Rattle.scsi_reserve.specs.declared.outcome.Ended.{Ended}
use Rattle.scsi_reserve.specs.declared.outcome.Ended.TheVariants.{Good}
use Rattle.scsi_reserve.specs.declared.outcome.Due.{Due}

-- its status with its sense data, and the unit attentions to be established
pub record Ending : Type 0 where
  pub ended : Ended
  pub due : List Due

-- GOOD, with these attentions
abbrev pub good_telling : List Due → Ending
good_telling due = record { ended = Good; due = due }

-- no attention
abbrev pub ended_with : Ended → Ending
ended_with ended = record { ended = ended; due = [] }

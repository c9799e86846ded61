use Rattle.std.proofs.Common.{[], refl}
use Rattle.iscsi_world.proofs.Tables.{new_table}
use Rattle.iscsi_target.proofs.history.well_formed.Goals as goal

pub loop-event-init : goal.loop-event-init
loop-event-init c = ([], new_table, refl)

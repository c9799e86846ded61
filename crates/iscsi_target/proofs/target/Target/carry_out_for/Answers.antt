use Rattle.std.proofs.Common.{None}
use Rattle.iscsi_world.proofs.Carrying.{carried_none}
use Rattle.iscsi_world.proofs.Within.{within_none}
use Rattle.iscsi_target.proofs.target.Target.carry_out_for.Goals as goal

pub returns-in-Some : goal.returns-in-Some
returns-in-Some g c = rw c.in-Some.is (record { carries = c.carry_out_all.ensures.carries; stays = c.carry_out_all.ensures.stays })

pub returns-in-None : goal.returns-in-None
returns-in-None g c = rw c.in-None.is (record { carries = carried_none c.args.self.now; stays = within_none None c.args.self.now })

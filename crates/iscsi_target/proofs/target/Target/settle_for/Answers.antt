use Rattle.std.proofs.Common.{None}
use Rattle.iscsi_world.proofs.SessionCalls.{settles_for_none}
use Rattle.iscsi_world.proofs.Within.{within_none}
use Rattle.iscsi_target.proofs.target.Target.settle_for.Goals as goal

pub returns-in-Some : goal.returns-in-Some
returns-in-Some g c = rw c.in-Some.is (record { settles = c.settle.ensures.settles; stays = c.settle.ensures.stays })

pub returns-in-None : goal.returns-in-None
returns-in-None g c = rw c.in-None.is (record { settles = settles_for_none c.args.self.now; stays = within_none None c.args.self.now })

use Rattle.std.proofs.Common.{Some, None, refl, sym}
use Rattle.iscsi_world.proofs.Carrying.{carried_on, reset_machine, reset_does, reset_stays}
use Rattle.iscsi_world.proofs.Within.{within_as}
use Rattle.iscsi_target.proofs.target.Target.reset.Goals as goal

pub returns : goal.returns
returns g c =
    let machine = c.args.self.now in
    let function = c.args.function.now in
    let after = reset_machine function c.args.target machine in
    let is = c.reset_units.ensures in
    record {
      carries = carried_on _ machine after machine _ refl (sym is) (reset_does machine function c.args.target);
      stays = within_as (Some c.args.target) None machine after _ (sym is) (reset_stays machine function c.args.target);
    }

use Rattle.std.proofs.Common.{◌≡◌, Some, None, subst, arith}
use Rattle.iscsi_world.specs.History.{connection_limit}
use Rattle.iscsi_world.specs.Serving.{CarriesOut}
use Rattle.iscsi_world.proofs.Carrying.{lost_below, none_lost, lost_next}
use Rattle.iscsi_world.proofs.Within.{within_none, within_then}
use Rattle.iscsi_target.proofs.target.Target.lose_all.Goals as goal

pub loop-d-init : goal.loop-d-init
loop-d-init g c = (
  none_lost c.args.function.now c.args.target c.args.c c.args.self.now,
  within_none (Some c.args.target) c.args.self.now,
  c.requires,
)

pub loop-d-preserved : goal.loop-d-preserved
loop-d-preserved g c = (
  lost_next c.args.function.now c.args.target c.args.c c.loop-d.d c.args.self.now c.loop-d.self c.lose_one.new.self
      (c.lose_one.ensures.stays.moves 0) c.loop-d.invariant.0 c.lose_one.ensures.carries,
  within_then (Some c.args.target) None None c.args.self.now c.loop-d.self c.lose_one.new.self c.loop-d.invariant.1 c.lose_one.ensures.stays,
  (let is = (c.lose_one.ensures.stays.moves 0).units in let was = c.loop-d.invariant.2 in omega arith),
)

pub returns-clause-carries : goal.returns-clause-carries
returns-clause-carries g c =
    let end : c.loop-d.d ≡ connection_limit = (let a = c.loop-d.auto.d-end in let b = c.loop-d-test.false in omega arith) in
    subst (λ n. CarriesOut (lost_below c.args.function.now c.args.target c.args.c n) c.args.self.now c.loop-d.self) end c.loop-d.invariant.0

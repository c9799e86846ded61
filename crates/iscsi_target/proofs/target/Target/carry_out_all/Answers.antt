use Rattle.std.proofs.Common.{Some, None, arith}
use Rattle.iscsi_world.proofs.Carrying.{carried_none, carried_next, carried_all}
use Rattle.iscsi_world.proofs.Within.{within_none, within_then}
use Rattle.iscsi_target.proofs.target.Target.carry_out_all.Goals as goal

pub loop-function-init : goal.loop-function-init
loop-function-init g c = (carried_none c.args.self.now, within_none (Some c.args.target) c.args.self.now, c.requires)

pub loop-function-preserved : goal.loop-function-preserved
loop-function-preserved g c = (
  carried_next c.args.c c.args.target c.args.functions.now c.loop-function.function-index c.function-item.result c.args.self.now
      c.loop-function.self c.carry_out.new.self (omega arith) c.function-item.is (c.carry_out.ensures.stays.moves 0) c.loop-function.invariant.0
      c.carry_out.ensures.carries,
  within_then (Some c.args.target) None None c.args.self.now c.loop-function.self c.carry_out.new.self c.loop-function.invariant.1
      c.carry_out.ensures.stays,
  (let is = (c.carry_out.ensures.stays.moves 0).units in let was = c.loop-function.invariant.2 in omega arith),
)

pub returns-clause-carries : goal.returns-clause-carries
returns-clause-carries g c =
    carried_all c.args.c c.args.target c.args.functions.now c.loop-function.function-index c.args.self.now c.loop-function.self
    c.loop-function-test.false c.loop-function.invariant.0

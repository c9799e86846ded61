use Rattle.std.proofs.Common.{Some, None, sym, ◌∙◌, arith}
use Rattle.iscsi_world.proofs.Carrying.{carried_reset, not_carried}
use Rattle.iscsi_world.proofs.Within.{within_none, within_then}
use Rattle.iscsi_target.proofs.target.Target.carry_out.Goals as goal

pub reset-requires : goal.reset-requires
reset-requires g c = (let is = (c.lose_all.ensures.stays.moves 0).units in let was = c.requires in omega arith)

pub returns-then-is_for_all_sessions : goal.returns-then-is_for_all_sessions
returns-then-is_for_all_sessions g c = record {
  carries = carried_reset c.args.function.now c.args.c c.args.target c.args.self.now c.lose_all.new.self c.reset.new.self
      (sym c.is_for_all_sessions.ensures ∙ c.if-is_for_all_sessions.true) (c.reset.ensures.stays.moves 0) c.lose_all.ensures.carries c.reset.ensures.carries;
  stays = within_then (Some c.args.target) None None c.args.self.now c.lose_all.new.self c.reset.new.self c.lose_all.ensures.stays c.reset.ensures.stays;
}

pub returns-else-is_for_all_sessions : goal.returns-else-is_for_all_sessions
returns-else-is_for_all_sessions g c = record {
  carries = not_carried c.args.function.now c.args.c c.args.target c.args.self.now (sym c.is_for_all_sessions.ensures ∙ c.if-is_for_all_sessions.false);
  stays = within_none (Some c.args.target) c.args.self.now;
}

use Rattle.std.proofs.Common.{◌++◌, [], ◌∷◌}
use Rattle.target_replay.proofs.Taking.{memory_passed_on, line_takes, line_stopped}
use Rattle.target_replay.proofs.engine.Engine.take_line.Goals as goal

pub returns-in_err-push-clause-stops : goal.returns-in_err-push-clause-stops
returns-in_err-push-clause-stops g c =
    memory_passed_on c.from_residual.result c.in_err-push.field-0.0 c.args.self.now (c.args.rest.now ++ 10 ∷ []) c.push.new.self.target _
    c.from_residual.ensures.1 c.in_err-push.ensures.memory c.push.ensures.target

pub returns-clause-takes : goal.returns-clause-takes
returns-clause-takes g c =
    line_takes c.end_line.result c.args.self.now c.push.new.self c.end_line.new.self c.args.rest.now _ _
    c.in_ok-push.ensures.pending c.push.ensures.target c.push.ensures.number c.end_line.ensures.each
    c.end_line.ensures.reply c.end_line.ensures.pending c.end_line.ensures.number

pub returns-clause-stops : goal.returns-clause-stops
returns-clause-stops g c =
    line_stopped c.end_line.result c.args.self.now c.push.new.self c.end_line.new.self.target c.args.rest.now _ _
    c.in_ok-push.ensures.pending c.push.ensures.target c.push.ensures.number c.end_line.ensures.each c.end_line.ensures.fails

use Rattle.std.proofs.Common.{Some, sym, ◌∙◌}
use Rattle.iscsi_world.specs.Machine.{link_at}
use Rattle.iscsi_world.specs.Serving.{first_starved}
use Rattle.iscsi_world.proofs.SessionCalls.{session_with, is_called, settles_none, settles_called, called_moves, ended_moves, ended_called_apart}
use Rattle.iscsi_world.proofs.Within.{within_none}
use Rattle.iscsi_target.proofs.target.Target.settle_one.Goals as goal

pub returns-then-not-is_with : goal.returns-then-not-is_with
returns-then-not-is_with g c = record {
  settles = settles_none c.args.self.now c.args.c c.args.target c.requires.in_range (sym c.is_with.ensures ∙ c.if-not-is_with.true);
  stays = within_none (Some c.args.target) c.args.self.now;
}

pub returns : goal.returns
returns g c =
    let at = session_with (link_at c.args.self.now c.args.c).phase c.args.target (sym c.is_with.ensures ∙ c.if-not-is_with.false) in
    let own = Some c.args.target in
    let given = c.args.self.now in
    let call = c.settle_session-goes_on in
    let middle = call.new.self in
    let after = c.end_unless.new.self in
    let starved = first_starved c.end_unless.result in
    let k = is_called c.args.c own given middle c.requires.in_range call.ensures.count at call.ensures.changes in
    let calls = call.ensures.calls in
    let l = calls.leaves at.0 at.1 in
    record {
      settles = settles_called call.result c.args.c c.args.target given middle after k starved l c.end_unless.ensures.value c.end_unless.ensures.same;
      stays = record {
        apart = λ t same. ended_called_apart c.args.c own given middle k l call.result t after same c.end_unless.ensures.same;
        moves = λ b. ended_moves c.args.c own given middle k l call.result b starved after c.end_unless.ensures.value c.end_unless.ensures.same
            (called_moves c.args.c own given middle k l b c.requires.target (λ other. calls.eases) calls.back calls.sure);
      };
    }

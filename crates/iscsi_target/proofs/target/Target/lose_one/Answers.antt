use Rattle.std.proofs.Common.{Some, sym, ◌∙◌, arith}
use Rattle.std.proofs.lemmas.Bool.{ne_eqb}
use Rattle.iscsi_world.specs.Machine.{link_at}
use Rattle.iscsi_world.proofs.Carrying.{loses_own, loses_none, loses_called}
use Rattle.iscsi_world.proofs.SessionCalls.{session_with, is_called, called_moves, called_apart}
use Rattle.iscsi_world.proofs.Within.{within_none}
use Rattle.iscsi_target.proofs.target.Target.lose_one.Goals as goal

pub returns-then-d-c : goal.returns-then-d-c
returns-then-d-c g c = record {
  carries = loses_own c.args.self.now c.args.function.now c.args.target c.args.c c.args.d (let same = c.if-d-c.true in omega (arith, same));
  stays = within_none (Some c.args.target) c.args.self.now;
}

pub returns-then-not-is_with : goal.returns-then-not-is_with
returns-then-not-is_with g c = record {
  carries = loses_none c.args.self.now c.args.function.now c.args.target c.args.c c.args.d c.requires.in_range
      (sym c.is_with.ensures ∙ c.if-not-is_with.true);
  stays = within_none (Some c.args.target) c.args.self.now;
}

pub returns : goal.returns
returns g c =
    let at = session_with (link_at c.args.self.now c.args.d).phase c.args.target (sym c.is_with.ensures ∙ c.if-not-is_with.false) in
    let own = Some c.args.target in
    let given = c.args.self.now in
    let after = c.lose_session.new.self in
    let k = is_called c.args.d own given after c.requires.in_range c.lose_session.ensures.count at c.lose_session.ensures.changes in
    let calls = c.lose_session.ensures.calls in
    let l = calls.leaves at.0 at.1 in
    record {
      carries = loses_called c.args.function.now c.args.target c.args.c c.args.d given after k
          (ne_eqb c.args.d c.args.c (λ same. absurd (let differ = c.if-d-c.false in omega (arith, same, differ)))) l;
      stays = record {
        apart = called_apart c.args.d own given after k l;
        moves = λ b. called_moves c.args.d own given after k l b c.requires.target (λ other. calls.eases) calls.back calls.sure;
      };
    }

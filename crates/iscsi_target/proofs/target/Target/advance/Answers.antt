use Rattle.std.proofs.Common.{◌≡◌, ◌+◌, ℕ, length, sym, ap, ◌∙◌, subst, arith}
use Rattle.iscsi_login.specs.LoginState.{IsTargetBelow}
use Rattle.iscsi_world.specs.Machine.{Machine}
use Rattle.iscsi_world.proofs.Sent.{with_part, sent_none, sent_next, still_wait}
use Rattle.iscsi_target.proofs.target.Target.advance.Goals as goal

pub loop-unsent-init : goal.loop-unsent-init
loop-unsent-init g c = (0, omega arith, sym (sent_none c.args.self.now c.args.c))

pub skip_front-skipped-requires-clause-waits : goal.skip_front-skipped-requires-clause-waits
skip_front-skipped-requires-clause-waits g c =
    let was = c.loop-unsent.invariant in
    still_wait c.args.self.now c.loop-unsent.self c.args.c was.0 c.loop-unsent.unsent c.args.n
    (let lt = c.requires.in_range in omega (arith, c.home-target.ensures.count, lt)) was.1 was.2 c.requires.waits

pub give_back-requires : goal.give_back-requires
give_back-requires g c =
    let was = c.loop-unsent.invariant in
    let same : length c.skip_front-skipped.new.self.units ≡ length c.args.self.now.units =
    ap (λ (m : Machine). length m.units) c.skip_front-skipped.ensures.sent ∙ ap (λ (m : Machine). length m.units) was.2 in
    subst (λ (n : ℕ). IsTargetBelow n c.home-target.result) (sym same) c.home-target.ensures.below

pub loop-unsent-preserved : goal.loop-unsent-preserved
loop-unsent-preserved g c =
    let was = c.loop-unsent.invariant in
    let step = c.skip_front-skipped.result.0 in (
      was.0 + step,
      (let sum = was.1 in let within = c.skip_front-skipped.ensures.within in omega arith),
      sent_next c.args.self.now c.loop-unsent.self c.skip_front-skipped.new.self c.give_back.new.self c.args.c was.0 step
          (let lt = c.requires.in_range in omega (arith, c.home-target.ensures.count, lt)) was.2 c.skip_front-skipped.ensures.sent c.give_back.ensures,
    )

pub returns-clause-sent : goal.returns-clause-sent
returns-clause-sent g c =
    let was = c.loop-unsent.invariant in
    let sum = was.1 in
    let all : was.0 ≡ c.args.n = omega (arith, c.loop-unsent-test.false) in
    was.2 ∙ ap (λ (n : ℕ). with_part c.args.self.now c.args.c n) all

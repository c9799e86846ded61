use Rattle.std.proofs.Common.{false, refl, sym, ◌∙◌, arith}
use Rattle.iscsi_session.proofs.Parts.{parts}
use Rattle.iscsi_session.proofs.Verdicts.{task_told}
use Rattle.iscsi_session.proofs.session.Session.judge_task.Goals as goal

pub returns-then-not-is_fresh-clause-verdict : goal.returns-then-not-is_fresh-clause-verdict
returns-then-not-is_fresh-clause-verdict c past s =
    sym (task_told past c.args.frame.now false _ _ _ (sym (c.is_fresh.ensures.fresh past s) ∙ c.if-not-is_fresh.true) refl refl refl)

pub returns-then-is_over-clause-verdict : goal.returns-then-is_over-clause-verdict
returns-then-is_over-clause-verdict c past s = grind (arith, task_told)

pub returns-then-is_taken-clause-verdict : goal.returns-then-is_taken-clause-verdict
returns-then-is_taken-clause-verdict c past s = grind (arith, task_told)

pub returns-then-is_faulty-clause-verdict : goal.returns-then-is_faulty-clause-verdict
returns-then-is_faulty-clause-verdict c past s = grind (arith, task_told, parts)

pub returns-clause-verdict : goal.returns-clause-verdict
returns-clause-verdict c past s = grind (arith, task_told, parts)

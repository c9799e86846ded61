use Rattle.std.proofs.Common.{[], arith}
use Rattle.iscsi_exchange.specs.SendTargets.{pair_answer}
use Rattle.iscsi_exchange.proofs.Asking.{answers_more, text_further}
use Rattle.std.proofs.lemmas.Grind.{common_steps}
use Rattle.iscsi_exchange.proofs.send_targets.answer_text.Goals as goal

pub loop-at-preserved : goal.loop-at-preserved
loop-at-preserved c =
    text_further [] _ _ _ _ _ c.loop-at.invariant c.in_ok-put_answer.ensures
    (answers_more (pair_answer c.args.params.now) c.args.said.now c.loop-at.at _ c.pair.ensures)

pub returns : goal.returns
returns = grind (arith, common_steps)

pub returns-in_err-put_answer : goal.returns-in_err-put_answer
returns-in_err-put_answer = grind (arith, common_steps)

use Rattle.std.proofs.Common.{◌≤◌, List, ◌++◌, length, append_assoc, sym, ap, ◌∙◌, arith}
use Rattle.std.specs.List.{filter_map}
use Rattle.std.proofs.lemmas.List.{take_all, drop_all}
use Rattle.std.proofs.lemmas.Result.{IfOk-from_err}
use Rattle.iscsi_text.specs.Pairs.{Pair, text_of}
use Rattle.iscsi_login.specs.Login.{answered_pair}
use Rattle.iscsi_login.specs.Values.{with_pair, with_pairs}
use Rattle.iscsi_login.proofs.Answered.{answer_more}
use Rattle.iscsi_login.proofs.Lists.{fold_at}
use Rattle.iscsi_login.proofs.answer.put_results.Goals as goal

pub returns-in_err-put_result-clause-text : goal.returns-in_err-put_result-clause-text
returns-in_err-put_result-clause-text c = IfOk-from_err c.from_residual.result _ c.from_residual.ensures.0

pub returns-in_err-put_result-clause-values : goal.returns-in_err-put_result-clause-values
returns-in_err-put_result-clause-values c = IfOk-from_err c.from_residual.result _ c.from_residual.ensures.0

pub loop-at-preserved : goal.loop-at-preserved
loop-at-preserved c =
    let more = answer_more c.args.offers.now c.loop-at.at _ c.pair.ensures in
    let taken = fold_at with_pair c.loop-at.values c.args.offers.now c.loop-at.at _ c.pair.ensures in
    record {
      answered = grind (arith, append_assoc, more);
      in_force = cc;
    }

pub returns-clause-text : goal.returns-clause-text
returns-clause-text c =
    let whole : length c.args.offers.now ≤ c.loop-at.at = rw c.len-at-end.ensures.value at c.loop-at-test.false in
    c.loop-at.invariant.answered
    ∙ ap (λ (offers : List Pair). c.args.text.now.items ++ text_of (filter_map answered_pair offers)) (take_all c.loop-at.at c.args.offers.now whole)

pub returns-clause-values : goal.returns-clause-values
returns-clause-values c =
    let whole : length c.args.offers.now ≤ c.loop-at.at = rw c.len-at-end.ensures.value at c.loop-at-test.false in
    sym (c.loop-at.invariant.in_force ∙ ap (with_pairs c.loop-at.values) (drop_all c.loop-at.at c.args.offers.now whole))

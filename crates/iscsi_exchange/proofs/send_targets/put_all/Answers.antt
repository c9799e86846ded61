use Rattle.std.proofs.Common.{◌++◌, List, None, ap, ◌∙◌, take, append-nil}
use Rattle.iscsi_text.specs.Pairs.{Pair}
use Rattle.iscsi_exchange.specs.SendTargets.{target_pairs, asked_pairs}
use Rattle.iscsi_exchange.proofs.Asking.{asked_more, text_further}
use Rattle.iscsi_exchange.proofs.send_targets.put_all.Goals as goal

pub loop-at-preserved : goal.loop-at-preserved
loop-at-preserved c =
    let portal = c.args.directory.now.portal in
    let names = c.args.directory.now.names in
    text_further _ _ _ _ (target_pairs portal c.name.result.now) _ c.loop-at.invariant c.in_ok-put_target.ensures
    (asked_more portal None names c.loop-at.at _ c.name.ensures
    ∙ ap (λ (l : List Pair). asked_pairs portal None (take c.loop-at.at names) ++ l) (append-nil (target_pairs portal c.name.result.now)))

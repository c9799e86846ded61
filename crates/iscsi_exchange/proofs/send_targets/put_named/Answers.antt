use Rattle.std.proofs.Common.{Some}
use Rattle.iscsi_exchange.proofs.Asking.{asked_more, text_further}
use Rattle.iscsi_exchange.proofs.send_targets.put_named.Goals as goal

pub loop-at-preserved : goal.loop-at-preserved
loop-at-preserved c =
    text_further _ _ _ _ _ _ c.loop-at.invariant c.in_ok-put_asked.ensures
    (asked_more c.args.directory.now.portal (Some c.args.asked.now) c.args.directory.now.names c.loop-at.at _ c.name.ensures)

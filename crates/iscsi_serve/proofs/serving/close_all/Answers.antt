use Rattle.iscsi_serve.proofs.Closing.{none_closes}
use Rattle.iscsi_serve.proofs.serving.close_all.Goals as goal

pub returns-else-has_closes : goal.returns-else-has_closes
returns-else-has_closes g c = none_closes _ _ c.args.target.now c.args.ended.now (c.requires c.if-has_closes.false)

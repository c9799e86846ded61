use Rattle.iscsi_serve.specs.Turn.{Closes}
use Rattle.iscsi_serve.proofs.Keeping.{none_does, one_more_does}
use Rattle.iscsi_serve.proofs.serving.close_each.Goals as goal

pub loop-c-init : goal.loop-c-init
loop-c-init g c = none_does Closes _ _ _ _

pub loop-c-preserved : goal.loop-c-preserved
loop-c-preserved g c = one_more_does Closes c.loop-c.c _ _ _ _ _ _ _ _ _ _ _ _ c.loop-c.invariant c.close_one.ensures

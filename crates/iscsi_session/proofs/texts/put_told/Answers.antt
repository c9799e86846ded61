use Rattle.std.proofs.Common.{◌++◌, sym, ap, ◌∙◌}
use Rattle.iscsi_pdu.specs.Answer.{spelling}
use Rattle.iscsi_pdu.specs.Frames.{Frame}
use Rattle.iscsi_pdu.specs.declared.answer.Answer.{Answer}
use Rattle.iscsi_session.proofs.texts.put_told.Goals as goal

pub returns-in-None : goal.returns-in-None
returns-in-None c =
    rw c.in-None.is (c.put-in-None.ensures.items ∙ ap (λ (a : Answer). c.args.out.now.items ++ spelling a)
    (c.rejected.ensures.value c.args.frame.now (ap (λ (f : Frame). f.header) (sym c.frame.view_is))))

use Rattle.std.proofs.Common.{[], ◌∷◌, refl, ap, ◌∙◌}
use Rattle.iscsi_transfer.specs.WriteData.{bursts_in, with_asked}
use Rattle.iscsi_transfer.specs.contracts.progress.Progress.{the_view}
use Rattle.iscsi_transfer.proofs.Open.{pushed}
use Rattle.iscsi_transfer.proofs.Inside.{filled_is}
use Rattle.iscsi_transfer.proofs.progress.Progress.asked.Goals as goal

pub returns : goal.returns
returns c =
    let old = c.self.inside in
    pushed (the_view old) (bursts_in old.is_open old.length old.unsolicited old.burst) c.args.tag c.push.new.self.items (filled_is old) refl
    c.push.ensures.items ∙ ap (with_asked (c.args.tag ∷ [])) c.self.view_is

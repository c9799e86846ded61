use Rattle.std.proofs.Common.{set, ap, ◌∙◌, arith}
use Rattle.scsi_unit.specs.Joined.{raised_in}
use Rattle.scsi_unit.proofs.Lists.{map_over_next}
use Rattle.scsi_unit.proofs.joined.raise_for_all.Goals as goal

pub loop-at-preserved : goal.loop-at-preserved
loop-at-preserved c =
    ap (set c.loop-at.joined c.loop-at.at) c.raise.ensures
    ∙ map_over_next (raised_in c.args.attention) c.args.joined.now c.loop-at.joined
    c.loop-at.at c.index-joined-at.result (omega arith) (omega arith) c.loop-at.invariant

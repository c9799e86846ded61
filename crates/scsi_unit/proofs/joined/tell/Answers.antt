use Rattle.std.proofs.Common.{ap}
use Rattle.std.proofs.Math.Seq.{map-set_same}
use Rattle.scsi_unit.proofs.Places.{nexus_of, distinct_alike}
use Rattle.scsi_unit.proofs.joined.tell.Goals as goal

pub invariant_of-joined : goal.invariant_of-joined
invariant_of-joined c =
    distinct_alike c.joined.inside.list.items _
    (map-set_same nexus_of c.joined.inside.list.items c.in_ok-at.at _ c.index_mut-entry.result.now (ap nexus_of c.index_mut-entry.ensures.value))
    c.joined.invariant

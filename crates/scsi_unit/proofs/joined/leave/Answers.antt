use Rattle.std.proofs.Common.{length, ap, arith}
use Rattle.scsi_unit.proofs.Places.{distinct_left}
use Rattle.scsi_unit.proofs.joined.leave.Goals as goal

pub invariant_of-joined : goal.invariant_of-joined
invariant_of-joined c =
    rw c.remove.ensures.items (distinct_left c.joined.inside.list.items c.in-Some.at
    (omega (arith, c.in-Some.ensures.bound, ap length c.as_slice.ensures.value)) c.joined.invariant)

use Rattle.std.proofs.Common.{None, Some}
use Rattle.scsi_unit.proofs.Places.{distinct_joined}
use Rattle.scsi_unit.proofs.joined.join.Goals as goal

pub invariant_of-joined : goal.invariant_of-joined
invariant_of-joined c =
    rw (c.push_reserved.ensures.items, c.entry.ensures) (distinct_joined c.joined.inside.list.items c.args.nexus None
    (rw c.as_slice.ensures.value at c.in-None.ensures.value) c.joined.invariant)

pub invariant_of-joined-in-Some : goal.invariant_of-joined-in-Some
invariant_of-joined-in-Some c =
    rw c.entry-in-Some.ensures (distinct_joined c.joined.inside.list.items c.args.nexus (Some c.in-Some.at)
    (rw c.as_slice.ensures.value at c.in-Some.ensures.value) c.joined.invariant)

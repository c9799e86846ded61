use Rattle.std.proofs.Common.{arith}
use Rattle.scsi_unit.proofs.Places.{distinct_over, nexuses-raised_due}
use Rattle.scsi_unit.proofs.joined.JoinedList.raise_due.Goals as goal

pub invariant_of-self : goal.invariant_of-self
invariant_of-self c =
    distinct_over c.self.inside.list.items c.raise_due.new.joined c.self.inside.list.len (omega (arith, c.self.inside.list.ok.0))
    (rw (c.raise_due.ensures, c.as_mut_slice.ensures.value) (nexuses-raised_due c.args.due.now c.self.inside.list.items)) c.self.invariant

use Rattle.scsi_sense.proofs.Laid.{gathered_some}
use Rattle.scsi_sense.proofs.given.Given.into_pieces.Goals as goal

pub returns-in-Some-clause-spare : goal.returns-in-Some-clause-spare
returns-in-Some-clause-spare c =
    let laid = rw c.in-Some.is at c.self.invariant.1 in
    (rw c.in-Some.is at c.self.invariant.0) (gathered_some c.in-Some.pieces.length c.in-Some.pieces.count c.self.inside.buffer.items laid)

use Rattle.iscsi_transfer.proofs.Pieces.{pieces_fit, pieces_are_joined}
use Rattle.iscsi_transfer.proofs.Lying.{pieces_lie}
use Rattle.iscsi_transfer.proofs.Counts.{pieces_are_counted, less_has_fewer}
use Rattle.iscsi_transfer.proofs.laws.pieces_are_the_data.Goals as goal

pub returns-clause-fit : goal.returns-clause-fit
returns-clause-fit c = pieces_fit

pub returns-clause-joined : goal.returns-clause-joined
returns-clause-joined c = pieces_are_joined

pub returns-clause-counted : goal.returns-clause-counted
returns-clause-counted c = pieces_are_counted

pub returns-clause-fewer : goal.returns-clause-fewer
returns-clause-fewer c = less_has_fewer

pub returns-clause-lie : goal.returns-clause-lie
returns-clause-lie c = pieces_lie

use Rattle.scsi_conflict.specs.ReservationType.{type_of}
use Rattle.scsi_reserve.specs.Request.{request_of, list_of}
use Rattle.scsi_reserve.specs.Out.{out_of}
use Rattle.scsi_reserve.proofs.Stays.{asked_once}
use Rattle.scsi_reserve.proofs.Fenced.{holder_allowed, holder_fenced}
use Rattle.scsi_reserve.proofs.laws.reservations_hold.Goals as goal

pub returns-clause-once : goal.returns-clause-once
unfolding out_of
returns-clause-once c action scope code list nexus table once =
    asked_once (request_of action (type_of scope code)) (list_of list) nexus table once

pub returns-clause-holder : goal.returns-clause-holder
returns-clause-holder c = holder_allowed

pub returns-clause-fenced : goal.returns-clause-fenced
returns-clause-fenced c = holder_fenced

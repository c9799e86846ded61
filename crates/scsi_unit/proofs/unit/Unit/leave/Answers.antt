use Rattle.scsi_unit.proofs.unit.Unit.leave.Goals as goal

pub returns : goal.returns
returns g c = rw (← c.self.view_is, c.leave.ensures)

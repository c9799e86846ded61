use Rattle.std.proofs.Common.{refl}
use Rattle.scsi_cdb.specs.declared.tape.TapeCommand.TheVariants.{SpaceToEndOfData}
use Rattle.scsi_sense.specs.Done.{good}
use Rattle.scsi_tape.specs.State.{TapeUnitState}
use Rattle.scsi_tape.proofs.Came.{as_defined}
use Rattle.scsi_tape.proofs.tape_unit.TapeUnit.space_to_end_of_data.Goals as goal

pub returns-clause-done : goal.returns-clause-done
returns-clause-done g c bytes =
    let unit : TapeUnitState = record { tape = c.self.inside.tape; is_working = c.self.inside.is_working; block_length = c.self.inside.block_length } in
    rw (← c.self.view_is, c.good.ensures) (as_defined SpaceToEndOfData bytes unit c.space_to_end.new.self good c.space_to_end.ensures refl)

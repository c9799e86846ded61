use Rattle.std.proofs.Common.{ap, ◌∙◌}
use Rattle.scsi_cdb.specs.declared.tape.TapeCommand.TheVariants.{Locate}
use Rattle.scsi_tape.specs.Commands.{locate_outcome}
use Rattle.scsi_tape.specs.State.{TapeUnitState}
use Rattle.scsi_tape.proofs.Came.{as_defined}
use Rattle.scsi_tape.proofs.tape_unit.TapeUnit.locate.Goals as goal

pub returns-clause-done : goal.returns-clause-done
returns-clause-done g c bytes =
    let unit : TapeUnitState = record { tape = c.self.inside.tape; is_working = c.self.inside.is_working; block_length = c.self.inside.block_length } in
    let ended = rw c.from.ensures at c.locate-ended.ensures in
    rw (← c.self.view_is) (as_defined (Locate c.args.number) bytes unit c.locate-ended.new.self c.located.result ended.tape
    (c.located.ensures.told ∙ ap locate_outcome ended.told))

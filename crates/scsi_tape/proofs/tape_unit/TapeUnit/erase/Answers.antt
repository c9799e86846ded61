use Rattle.std.proofs.Common.{refl}
use Rattle.std.proofs.lemmas.Bool.{false≢true}
use Rattle.scsi_cdb.specs.declared.tape.TapeCommand.TheVariants.{Erase}
use Rattle.scsi_sense.specs.Done.{good}
use Rattle.scsi_tape.specs.CameOut.{standing_of}
use Rattle.scsi_tape.specs.State.{TapeUnitState}
use Rattle.scsi_tape.proofs.Came.{write_answered, write_fails, torn_items, torn_sizes}
use Rattle.scsi_tape.proofs.tape_unit.TapeUnit.erase.Goals as goal

pub returns-in-Ok-clause-done : goal.returns-in-Ok-clause-done
returns-in-Ok-clause-done g c bytes =
    let unit : TapeUnitState = record { tape = c.self.inside.tape; is_working = c.self.inside.is_working; block_length = c.self.inside.block_length } in
    let told = c.in-Ok.ensures in
    rw (← c.self.view_is, c.good.ensures)
    (write_answered Erase bytes unit c.erase.new.self good told.honest told.tape (λ none. cc) told.sized told.rest refl refl)

pub returns-in-Err-clause-done : goal.returns-in-Err-clause-done
returns-in-Err-clause-done g c bytes =
    let unit : TapeUnitState = record { tape = c.self.inside.tape; is_working = c.self.inside.is_working; block_length = c.self.inside.block_length } in
    let new = c.erase.new.self in
    let failed = c.in-Err.ensures in
    rw (← c.self.view_is, c.write_failed.ensures.told, c.write_failed.ensures.unit)
    (write_fails Erase bytes unit (standing_of new) new refl (torn_sizes unit new failed.failed failed.sized failed.rest)
    (torn_items unit new failed.failed failed.sized failed.rest)
    (λ steady honest room. false≢true (failed.succeeds steady honest)))

use Rattle.std.proofs.Common.{ℕ, Bool, length, refl, ap, ◌∙◌}
use Rattle.std.proofs.lemmas.Result.{IfOk-weaker}
use Rattle.scsi_cdb.specs.declared.tape.TapeCommand.TheVariants.{ReadPosition}
use Rattle.scsi_sense.specs.Done.{good_with}
use Rattle.scsi_tape.specs.Commands.{position_data}
use Rattle.scsi_tape.specs.State.{TapeUnitState}
use Rattle.scsi_tape.proofs.Came.{as_defined}
use Rattle.scsi_tape.proofs.tape_unit.TapeUnit.read_position.Goals as goal

pub returns-clause-done : goal.returns-clause-done
returns-clause-done g c =
    let unit : TapeUnitState = record { tape = c.self.inside.tape; is_working = c.self.inside.is_working; block_length = c.self.inside.block_length } in
    let bytes_are = c.position_data-bytes.ensures
    ∙ ap (λ (at : ℕ). position_data at c.is_early.result) c.position.ensures
    ∙ ap (λ (early : Bool). position_data (length unit.tape.before) early) c.is_early.ensures in
    rw (← c.self.view_is) (IfOk-weaker c.good_with_front.result _ _ (λ done is bytes.
    as_defined ReadPosition bytes unit unit.tape done refl (is ∙ ap good_with bytes_are)) c.good_with_front.ensures.done)

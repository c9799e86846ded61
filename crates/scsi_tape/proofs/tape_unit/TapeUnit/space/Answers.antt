use Rattle.std.proofs.Common.{ap, ◌∙◌}
use Rattle.media_tape.specs.Space.{spaced_told, tape_spaced}
use Rattle.tape_index.specs.declared.outcome.Over.{Over}
use Rattle.tape_index.specs.declared.outcome.Direction.{Direction}
use Rattle.scsi_cdb.specs.declared.tape.TapeCommand.TheVariants.{Space}
use Rattle.scsi_tape.specs.Commands.{toward, space_outcome}
use Rattle.scsi_tape.specs.State.{TapeUnitState}
use Rattle.scsi_tape.proofs.Came.{as_defined}
use Rattle.scsi_tape.proofs.tape_unit.TapeUnit.space.Goals as goal

pub returns-clause-done : goal.returns-clause-done
returns-clause-done g c bytes =
    let unit : TapeUnitState = record { tape = c.self.inside.tape; is_working = c.self.inside.is_working; block_length = c.self.inside.block_length } in
    let count = c.args.distance.count in
    let told = c.space-ended.ensures in
    rw (← c.self.view_is)
    (as_defined (Space c.args.code c.args.distance) bytes unit c.space-ended.new.self c.spaced.result
    (told.tape
    ∙ ap (λ (way : Direction). tape_spaced way c.over.result count unit.tape) c.toward.ensures
    ∙ ap (λ (over : Over). tape_spaced (toward c.args.distance) over count unit.tape) c.over.ensures)
    (c.spaced.ensures.told ∙ ap space_outcome (told.told
    ∙ ap (λ (way : Direction). spaced_told way c.over.result count unit.tape) c.toward.ensures
    ∙ ap (λ (over : Over). spaced_told (toward c.args.distance) over count unit.tape) c.over.ensures)))

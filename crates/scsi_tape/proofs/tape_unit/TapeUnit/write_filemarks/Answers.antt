use Rattle.std.proofs.lemmas.Bool.{false≢true}
use Rattle.scsi_tape.specs.State.{TapeUnitState}
use Rattle.scsi_tape.proofs.MarksDone.{marks_done, marks_failed}
use Rattle.scsi_tape.proofs.tape_unit.TapeUnit.write_filemarks.Goals as goal

pub returns-in-Ok-clause-done : goal.returns-in-Ok-clause-done
returns-in-Ok-clause-done g c bytes =
    let unit : TapeUnitState = record { tape = c.self.inside.tape; is_working = c.self.inside.is_working; block_length = c.self.inside.block_length } in
    let told = rw c.in-Ok.is at c.in_ok-ended.ensures in
    rw (← c.self.view_is)
    (marks_done c.args.count bytes unit c.marks.new.self c.in-Ok.ended c.marked.result
    told.honest told.tape told.sized told.told told.none told.refused told.synced told.rest c.marked.ensures.told c.marked.ensures.given)

pub returns-in-Err-clause-done : goal.returns-in-Err-clause-done
returns-in-Err-clause-done g c bytes =
    let unit : TapeUnitState = record { tape = c.self.inside.tape; is_working = c.self.inside.is_working; block_length = c.self.inside.block_length } in
    let failed = rw c.in-Err.is at c.in_ok-ended.ensures in
    rw (← c.self.view_is, c.write_failed.ensures.told, c.write_failed.ensures.unit)
    (marks_failed c.args.count bytes unit c.marks.new.self failed.failed failed.kept failed.none_failed failed.unsynced failed.fits failed.rest
    (λ steady honest room. false≢true (failed.succeeds steady room)))

use Rattle.std.proofs.Common.{◌≢◌}
use Rattle.std.proofs.lemmas.Bool.{false≢true}
use Rattle.scsi_tape.specs.State.{TapeUnitState}
use Rattle.scsi_tape.proofs.WriteDone.{write_done, write_failed}
use Rattle.scsi_tape.proofs.tape_unit.TapeUnit.write.Goals as goal

pub returns-in-Ok-clause-done : goal.returns-in-Ok-clause-done
returns-in-Ok-clause-done g c =
    let unit : TapeUnitState = record { tape = c.self.inside.tape; is_working = c.self.inside.is_working; block_length = c.self.inside.block_length } in
    let told = rw (c.in-Ok.is, c.bytes-count.ensures.value) at c.in_ok-ended.ensures in
    let some : c.args.size ≢ 0 = rw c.bytes-count.ensures.value at c.if-count-eq0.false in
    let outcome = rw c.bytes-count.ensures.value at c.written.ensures.told in
    rw (← c.self.view_is)
    (write_done c.args.size c.args.«data».now unit c.write.new.self some c.requires c.in-Ok.ended c.written.result
    told.honest told.tape told.sized told.told told.refused told.synced told.rest outcome c.written.ensures.given)

pub returns-in-Err-clause-done : goal.returns-in-Err-clause-done
returns-in-Err-clause-done g c =
    let unit : TapeUnitState = record { tape = c.self.inside.tape; is_working = c.self.inside.is_working; block_length = c.self.inside.block_length } in
    let failed = rw (c.in-Err.is, c.bytes-count.ensures.value) at c.in_ok-ended.ensures in
    let some : c.args.size ≢ 0 = rw c.bytes-count.ensures.value at c.if-count-eq0.false in
    rw (← c.self.view_is, c.write_failed.ensures.told, c.write_failed.ensures.unit)
    (write_failed c.args.size c.args.«data».now unit c.write.new.self some c.requires failed.failed failed.kept failed.unsynced failed.fits failed.rest
    (λ steady honest room. false≢true (failed.succeeds steady room)))

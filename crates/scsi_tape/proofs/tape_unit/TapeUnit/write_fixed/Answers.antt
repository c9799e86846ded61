use Rattle.std.proofs.Common.{◌≢◌, ◌<◌}
use Rattle.std.proofs.lemmas.Bool.{false≢true}
use Rattle.scsi_tape.specs.State.{TapeUnitState}
use Rattle.scsi_tape.proofs.FixedWriteDone.{blocks_done, blocks_failed, some_taken}
use Rattle.scsi_tape.proofs.tape_unit.TapeUnit.write_fixed.Goals as goal

pub returns-in-Ok-clause-done : goal.returns-in-Ok-clause-done
returns-in-Ok-clause-done g c =
    let unit : TapeUnitState = record { tape = c.self.inside.tape; is_working = c.self.inside.is_working; block_length = c.self.inside.block_length } in
    let blocks = c.args.blocks in
    let told = rw (c.in-Ok.is, c.count-count.ensures.value, c.block_length.ensures.value, c.bytes.ensures.value) at c.in_ok-ended.ensures in
    let any : blocks.count ≢ 0 = rw c.count-count.ensures.value at c.if-count-eq0.false in
    let long : 0 < blocks.block_length = rw c.block_length.ensures.value at c.block_length.ensures.some in
    rw (← c.self.view_is)
    (blocks_done blocks c.args.«data».now unit c.write_fixed.new.self any long c.in-Ok.ended c.blocks_written.result
    told.honest told.tape told.sized told.told told.refused
    (told.synced (some_taken blocks c.args.«data».now any long c.requires)) told.rest
    c.blocks_written.ensures.told c.blocks_written.ensures.given)

pub returns-in-Err-clause-done : goal.returns-in-Err-clause-done
returns-in-Err-clause-done g c =
    let unit : TapeUnitState = record { tape = c.self.inside.tape; is_working = c.self.inside.is_working; block_length = c.self.inside.block_length } in
    let blocks = c.args.blocks in
    let failed = rw (c.in-Err.is, c.block_length.ensures.value) at c.in_ok-ended.ensures in
    let any : blocks.count ≢ 0 = rw c.count-count.ensures.value at c.if-count-eq0.false in
    let long : 0 < blocks.block_length = rw c.block_length.ensures.value at c.block_length.ensures.some in
    rw (← c.self.view_is, c.write_failed.ensures.told, c.write_failed.ensures.unit)
    (blocks_failed blocks c.args.«data».now unit c.write_fixed.new.self any long failed.failed failed.kept failed.unsynced failed.fits failed.rest
    (λ steady honest room. false≢true (failed.succeeds steady room)))

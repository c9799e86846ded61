use Rattle.std.proofs.Common.{◌≡◌, nat_lt, true, refl, arith}
use Rattle.std.proofs.lemmas.Bool.{false≢true, lt-ltb}
use Rattle.scsi_cdb.specs.declared.command.DiskCommand.TheVariants.{Read}
use Rattle.scsi_disk.specs.DiskDevice.{disk_view}
use Rattle.scsi_disk.proofs.DiskDone.{reading_failed, read_given}
use Rattle.scsi_disk.proofs.disk_device.DiskDevice.read.Goals as goal

pub returns-in-Err-clause-done : goal.returns-in-Err-clause-done
returns-in-Err-clause-done g c bytes =
    let some : nat_lt 0 c.args.range.count ≡ true = lt-ltb 0 c.args.range.count (omega arith) in
    rw c.read_failed.ensures
    (reading_failed (Read c.args.range) bytes (disk_view c.args.self.now) c.read_into.new.disk (rw some refl) c.in-Err.ensures.disk c.in-Err.ensures.back
    (λ steady honest. false≢true (c.in-Err.ensures.succeeds steady honest).0))

pub returns-in-Ok-clause-done : goal.returns-in-Ok-clause-done
returns-in-Ok-clause-done g c bytes =
    let some : nat_lt 0 c.args.range.count ≡ true = lt-ltb 0 c.args.range.count (omega arith) in
    rw (c.good_with.ensures, c.in_pieces.ensures)
    (read_given c.args.range bytes (disk_view c.args.self.now) c.read_into.new.disk _ c.read_into.new.disk.honest some refl
    c.in-Ok.ensures.length c.in-Ok.ensures.disk c.in-Ok.ensures.back (λ honest. c.in-Ok.ensures.read honest)
    (λ steady honest. (c.in-Ok.ensures.succeeds steady honest).1))

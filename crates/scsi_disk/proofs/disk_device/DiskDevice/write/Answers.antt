use Rattle.std.proofs.Common.{◌≡◌, true, nat_lt}
use Rattle.std.proofs.lemmas.Bool.{false≢true}
use Rattle.scsi_disk.specs.DiskDevice.{disk_view}
use Rattle.scsi_disk.proofs.DiskDone.{some_block, write_given, write_failed}
use Rattle.scsi_disk.proofs.disk_device.DiskDevice.write.Goals as goal

pub returns-in-Ok-clause-done : goal.returns-in-Ok-clause-done
returns-in-Ok-clause-done g c =
    let some : nat_lt 0 c.args.range.count ≡ true = rw c.count-count.ensures.value at (some_block c.count-count.result c.if-count-eq0.false) in
    rw (c.good_taking.ensures, c.count-count.ensures.value)
    (write_given c.args.range c.args.force_unit_access c.args.«data».now (disk_view c.args.self.now) c.write_through.new.disk some
    (rw (c.count-count.ensures.value, c.first.ensures) at c.in-Ok.ensures.written))

pub returns-in-Err-clause-done : goal.returns-in-Err-clause-done
returns-in-Err-clause-done g c =
    let some : nat_lt 0 c.args.range.count ≡ true = rw c.count-count.ensures.value at (some_block c.count-count.result c.if-count-eq0.false) in
    rw (c.write_failed.ensures.told, c.write_failed.ensures.disk)
    (write_failed c.args.range c.args.force_unit_access c.args.«data».now (disk_view c.args.self.now) c.write_through.new.disk some
    (rw (c.count-count.ensures.value, c.first.ensures) at c.in-Err.ensures.torn)
    (λ steady honest. false≢true (c.in-Err.ensures.succeeds steady honest)))

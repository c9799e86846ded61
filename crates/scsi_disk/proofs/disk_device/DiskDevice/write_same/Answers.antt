use Rattle.std.proofs.Common.{◌≡◌, true, nat_lt, take, replicate}
use Rattle.std.proofs.lemmas.Bool.{false≢true, lt-ltb}
use Rattle.media_block.specs.Blocks.{block_length}
use Rattle.scsi_disk.specs.DiskDevice.{disk_view}
use Rattle.scsi_disk.proofs.DiskDone.{same_given, same_failed}
use Rattle.scsi_disk.proofs.DiskWrites.{not_none, write_done, write_torn}
use Rattle.scsi_disk.proofs.disk_device.DiskDevice.write_same.Goals as goal

pub returns-in-Ok-clause-done : goal.returns-in-Ok-clause-done
returns-in-Ok-clause-done g c =
    let range = c.args.range in
    let disk = c.args.self.now.disk in
    let some : nat_lt 0 range.count ≡ true = rw c.count.ensures.value at (lt-ltb 0 c.count.result c.count.ensures.least) in
    let done = c.in-Ok.ensures in
    rw c.good_taking.ensures
    (same_given range c.args.«data».now (disk_view c.args.self.now) c.write_same.new.self some
    (write_done range.first range.count (replicate range.count (take block_length c.args.«data».now)) disk disk c.write_same.new.self
    (rw (c.from.ensures, c.count.ensures.value, c.first.ensures) at done.written) done.length
    (rw (c.from.ensures, c.count.ensures.value, not_none range.count some) at done.synced) done.failures done.honest done.steady))

pub returns-in-Err-clause-done : goal.returns-in-Err-clause-done
returns-in-Err-clause-done g c =
    let range = c.args.range in
    let disk = c.args.self.now.disk in
    let some : nat_lt 0 range.count ≡ true = rw c.count.ensures.value at (lt-ltb 0 c.count.result c.count.ensures.least) in
    let done = c.in-Err.ensures in
    rw (c.write_failed.ensures.told, c.write_failed.ensures.disk)
    (same_failed range c.args.«data».now (disk_view c.args.self.now) c.write_same.new.self some
    (write_torn range.first range.count (replicate range.count (take block_length c.args.«data».now)) disk disk c.write_same.new.self
    (rw (c.from.ensures, c.count.ensures.value, c.first.ensures) at done.torn) done.length
    (rw (c.from.ensures, c.count.ensures.value, not_none range.count some) at done.synced) done.failures done.honest done.steady)
    (λ steady honest. false≢true (done.succeeds steady honest)))

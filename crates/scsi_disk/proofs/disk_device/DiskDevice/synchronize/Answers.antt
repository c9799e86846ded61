use Rattle.std.proofs.lemmas.Bool.{false≢true}
use Rattle.scsi_disk.specs.DiskDevice.{disk_view}
use Rattle.scsi_disk.proofs.DiskDone.{sync_failed}
use Rattle.scsi_disk.proofs.disk_device.DiskDevice.synchronize.Goals as goal

pub returns-in-Err-clause-done : goal.returns-in-Err-clause-done
returns-in-Err-clause-done g c bytes =
    rw (c.write_failed.ensures.told, c.write_failed.ensures.disk)
    (sync_failed c.args.range bytes (disk_view c.args.self.now) c.sync.new.self c.in-Err.ensures.disk
    (λ steady honest. false≢true (c.in-Err.ensures.succeeds steady)))

use Rattle.std.proofs.Common.{◌≡◌, ◌*◌, Some, None, true, nat_lt, refl}
use Rattle.std.proofs.lemmas.Bool.{false≢true, lt-ltb}
use Rattle.scsi_cdb.specs.declared.command.DiskCommand.TheVariants.{VerifyData}
use Rattle.scsi_disk.specs.DiskDevice.{disk_view}
use Rattle.scsi_disk.proofs.DiskDone.{some_block, reading_failed, verify_given}
use Rattle.scsi_disk.proofs.disk_device.DiskDevice.verify_data.Goals as goal

pub returns-in-Ok-None-clause-done : goal.returns-in-Ok-None-clause-done
returns-in-Ok-None-clause-done g c =
    let some : nat_lt 0 c.args.range.count ≡ true = rw c.count-count.ensures.value at (some_block c.count-count.result c.if-count-eq0.false) in
    let told = c.in-Ok-None.ensures in
    rw (c.good_taking.ensures, c.count-count.ensures.value)
    (verify_given c.args.range c.args.«data».now (disk_view c.args.self.now) c.compare_parts.new.self None some
    told.disk told.back (λ steady honest. (told.succeeds steady honest).1)
    (rw (c.in-Ok-None.field-0-is, c.from.ensures, c.count-count.ensures.value, c.first.ensures) at told.compared) refl)

pub returns-in-Ok-Some-clause-done : goal.returns-in-Ok-Some-clause-done
returns-in-Ok-Some-clause-done g c =
    let some : nat_lt 0 c.args.range.count ≡ true = rw c.count-count.ensures.value at (some_block c.count-count.result c.if-count-eq0.false) in
    let told = c.in-Ok-Some.ensures in
    rw c.miscompare.ensures
    (verify_given c.args.range c.args.«data».now (disk_view c.args.self.now) c.compare_parts.new.self (Some c.in-Ok-Some.at) some
    told.disk told.back (λ steady honest. (told.succeeds steady honest).1)
    (rw (c.in-Ok-Some.field-0-is, c.from.ensures, c.count-count.ensures.value, c.first.ensures) at told.compared)
    (lt-ltb c.in-Ok-Some.at (512 * c.args.range.count) (rw (c.in-Ok-Some.field-0-is, c.from.ensures, c.count-count.ensures.value) at told.within)))

pub returns-in-Err-clause-done : goal.returns-in-Err-clause-done
returns-in-Err-clause-done g c =
    let some : nat_lt 0 c.args.range.count ≡ true = rw c.count-count.ensures.value at (some_block c.count-count.result c.if-count-eq0.false) in
    rw c.read_failed.ensures
    (reading_failed (VerifyData c.args.range) c.args.«data».now (disk_view c.args.self.now) c.compare_parts.new.self (rw some refl)
    c.in-Err.ensures.disk c.in-Err.ensures.back (λ steady honest. false≢true (c.in-Err.ensures.succeeds steady honest).0))

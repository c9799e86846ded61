use Rattle.std.proofs.Common.{◌≡◌, ◌*◌, ◌-◌, length, drop, true, nat_lt, refl, arith}
use Rattle.std.proofs.lemmas.Bool.{false≢true, lt-ltb}
use Rattle.std.proofs.lemmas.List.{length-take-le, length-drop, take_all}
use Rattle.scsi_cdb.specs.declared.command.DiskCommand.TheVariants.{CompareAndWrite}
use Rattle.scsi_disk.specs.DiskDevice.{disk_view}
use Rattle.scsi_disk.proofs.DiskDone.{some_block, reading_failed, differs, same_written, same_torn}
use Rattle.scsi_disk.proofs.disk_device.DiskDevice.compare_and_write.Goals as goal

pub returns-in-Ok-Some-clause-done : goal.returns-in-Ok-Some-clause-done
returns-in-Ok-Some-clause-done g c =
    let some : nat_lt 0 c.args.range.count ≡ true = rw c.count-count.ensures.value at (some_block c.count-count.result c.if-count-eq0.false) in
    let told = c.in-Ok-Some.ensures in
    rw c.miscompare.ensures
    (differs c.args.range c.args.force_unit_access c.args.«data».now (disk_view c.args.self.now) c.compare.new.self some
    told.disk told.back (λ steady honest. (told.succeeds steady honest).1) c.in-Ok-Some.at
    (rw (c.in-Ok-Some.field-0-is, c.from.ensures, c.count-count.ensures.value, c.first.ensures) at told.compared)
    (lt-ltb c.in-Ok-Some.at (512 * c.args.range.count) (omega (
      arith,
      rw (c.in-Ok-Some.field-0-is, c.count-count.ensures.value) at told.within,
      length-take-le (512 * c.args.range.count) c.args.«data».now (omega (arith, c.requires.enough)),
    ))))

pub returns-in-Err-clause-done : goal.returns-in-Err-clause-done
returns-in-Err-clause-done g c =
    let some : nat_lt 0 c.args.range.count ≡ true = rw c.count-count.ensures.value at (some_block c.count-count.result c.if-count-eq0.false) in
    rw c.read_failed.ensures
    (reading_failed (CompareAndWrite c.args.range c.args.force_unit_access) c.args.«data».now (disk_view c.args.self.now) c.compare.new.self (rw some refl)
    c.in-Err.ensures.disk c.in-Err.ensures.back (λ steady honest. false≢true (c.in-Err.ensures.succeeds steady honest).0))

pub returns-in-Ok-clause-done : goal.returns-in-Ok-clause-done
returns-in-Ok-clause-done g c =
    let some : nat_lt 0 c.args.range.count ≡ true = rw c.count-count.ensures.value at (some_block c.count-count.result c.if-count-eq0.false) in
    let told = c.in-Ok-None.ensures in
    let first = 512 * c.args.range.count in
    let bytes = c.args.«data».now in
    let behind = take_all (length bytes - first) (drop first bytes) (omega (arith, length-drop first bytes)) in
    rw (c.good_taking.ensures, c.count-count.ensures.value)
    (same_written c.args.range c.args.force_unit_access c.args.«data».now (disk_view c.args.self.now) c.compare.new.self some
    told.disk told.back (λ steady honest. (told.succeeds steady honest).1) c.write_through.new.disk
    (rw (c.in-Ok-None.field-0-is, c.from.ensures, c.count-count.ensures.value, c.first.ensures) at told.compared)
    (rw (c.whole-written.ensures, c.count-count.ensures.value, c.first-2.ensures, behind) at c.in-Ok.ensures.written))

pub returns-in-Err-write_through-clause-done : goal.returns-in-Err-write_through-clause-done
returns-in-Err-write_through-clause-done g c =
    let some : nat_lt 0 c.args.range.count ≡ true = rw c.count-count.ensures.value at (some_block c.count-count.result c.if-count-eq0.false) in
    let told = c.in-Ok-None.ensures in
    let failed = c.in-Err-write_through.ensures in
    rw (c.write_failed.ensures.told, c.write_failed.ensures.disk)
    (same_torn c.args.range c.args.force_unit_access c.args.«data».now (disk_view c.args.self.now) c.compare.new.self some
    told.disk told.back (λ steady honest. (told.succeeds steady honest).1) c.write_through.new.disk
    (rw (c.count-count.ensures.value, c.first-2.ensures) at failed.torn)
    (λ steady honest. false≢true (failed.succeeds steady honest)))

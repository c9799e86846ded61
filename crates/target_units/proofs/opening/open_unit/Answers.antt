use Rattle.std.proofs.Common.{ap, refl}
use Rattle.scsi_unit.specs.Device.{opened, opened_tape}
use Rattle.target_config.specs.Configuration.{unit_view}
use Rattle.target_units.specs.Refusal.{refusal_of}
use Rattle.target_units.specs.declared.fault.UnitFault.TheVariants as whys
use Rattle.target_units.proofs.OpenedUnits.{unit_over, number_is}
use Rattle.target_units.proofs.RefusedUnits.{fault_at, fails_at}
use Rattle.target_units.proofs.opening.open_unit.Goals as goal

pub returns-in_ok-memory_disk-in-MemoryDisk-clause-unit : goal.returns-in_ok-memory_disk-in-MemoryDisk-clause-unit
returns-in_ok-memory_disk-in-MemoryDisk-clause-unit g c =
    let medium = opened c.in_ok-memory_disk-in-MemoryDisk.field-0 in
    let free = rw (c.serial.view_is, c.new-serial.ensures) at c.disk.ensures in
    unit_over g.S.Start.held (unit_view c.args.unit) _ medium c.disk.result free (number_is (unit_view c.args.unit) c.requires)
    (rw c.in-MemoryDisk.is (ap opened c.in_ok-memory_disk-in-MemoryDisk.ensures))

pub returns-in_ok-tape-in-MemoryTape-clause-unit : goal.returns-in_ok-tape-in-MemoryTape-clause-unit
returns-in_ok-tape-in-MemoryTape-clause-unit g c =
    let medium = opened_tape c.in_ok-tape-in-MemoryTape.tape in
    let free = rw c.new-serial.ensures at c.tape.ensures in
    unit_over g.S.Start.held (unit_view c.args.unit) _ medium c.tape.result free (number_is (unit_view c.args.unit) c.requires)
    (rw c.in-MemoryTape.is (ap opened_tape c.in_ok-tape-in-MemoryTape.ensures))

pub returns-in_err-memory_disk-in-MemoryDisk-clause-fault : goal.returns-in_err-memory_disk-in-MemoryDisk-clause-fault
returns-in_err-memory_disk-in-MemoryDisk-clause-fault g c =
    fails_at g.S.Start.held (unit_view c.args.unit) (refusal_of c.args.refused.now) c.from_residual.result whys.Memory c.from_residual.ensures.1 tt

pub returns-in_err-tape-in-MemoryTape-clause-fault : goal.returns-in_err-tape-in-MemoryTape-clause-fault
returns-in_err-tape-in-MemoryTape-clause-fault g c =
    fails_at g.S.Start.held (unit_view c.args.unit) (refusal_of c.args.refused.now) c.from_residual-in_err-tape-in-MemoryTape.result whys.Memory
    c.from_residual-in_err-tape-in-MemoryTape.ensures.1 tt

pub returns-in_ok-tape-in-FileTape-clause-unit : goal.returns-in_ok-tape-in-FileTape-clause-unit
returns-in_ok-tape-in-FileTape-clause-unit g c =
    let tape = c.in_ok-tape-in-FileTape.tape in
    let free = rw c.new-serial.ensures at c.tape-in-FileTape.ensures in
    unit_over g.S.Start.held (unit_view c.args.unit) _ (opened_tape tape) c.tape-in-FileTape.result free
    (number_is (unit_view c.args.unit) c.requires) (rw c.in-FileTape.is (tape, refl, c.in_ok-tape-in-FileTape.ensures.tape))

pub returns-in_err-tape-in-FileTape-clause-fault : goal.returns-in_err-tape-in-FileTape-clause-fault
returns-in_err-tape-in-FileTape-clause-fault g c =
    let why = c.in_err-tape-in-FileTape.field-0.0 in
    let refused = refusal_of c.file_tape.new.refused in
    fails_at g.S.Start.held (unit_view c.args.unit) refused c.from_residual-in_err-tape-in-FileTape.result why
    c.from_residual-in_err-tape-in-FileTape.ensures.1
    (fault_at g.S.Start.held (unit_view c.args.unit) _ refused why (number_is (unit_view c.args.unit) c.requires)
    (rw c.in-FileTape.is c.in_err-tape-in-FileTape.ensures.fault))

-- The table of operations: what operation codes name (byte 0, SPC-4 "Operation code"), and what a unit checks of each
-- before its fields.
use Rattle.std.specs.Prelude.{ℕ, List, [], ◌∷◌, Bool, true, false, ◌==◌, Option, Some, None, if◌then◌else◌}
use Rattle.std.specs.Option.{option_map}
use Rattle.scsi_cdb.specs.declared.operation.Kind.{Kind}
use Rattle.scsi_cdb.specs.declared.operation.Kind.TheVariants as kind
use Rattle.scsi_cdb.specs.declared.operation.Operation.{Operation}
use Rattle.scsi_cdb.specs.declared.operation.Operation.TheVariants.{Unit, Disk, Tape}
use Rattle.scsi_cdb.specs.declared.operation.UnitOperation.TheVariants.{TestUnitReady, RequestSense, Inquiry, ModeSelect6, ModeSelect10, ModeSense6, ModeSense10, ReportLuns}
use Rattle.scsi_cdb.specs.declared.operation.UnitOperation.TheVariants.{PersistentReserveIn, PersistentReserveOut}
use Rattle.scsi_cdb.specs.declared.operation.DiskOperation.TheVariants.{Read10, Read16, ReadCapacity10, ServiceActionIn16, Write10, Write16}
use Rattle.scsi_cdb.specs.declared.operation.DiskOperation.TheVariants.{Verify10, Verify16, SynchronizeCache10, SynchronizeCache16, WriteSame10}
use Rattle.scsi_cdb.specs.declared.operation.DiskOperation.TheVariants.{WriteSame16, CompareAndWrite}
use Rattle.scsi_cdb.specs.declared.operation.TapeOperation.TheVariants.{Rewind, ReadBlockLimits, Read6, Write6, WriteFilemarks6, Space6}
use Rattle.scsi_cdb.specs.declared.operation.TapeOperation.TheVariants.{Erase6, LoadUnload, Locate10, ReadPosition}
use Rattle.scsi_cdb.specs.declared.operation.Need.{Need}
use Rattle.scsi_cdb.specs.declared.operation.Need.TheVariants.{Nothing, Working, Ready}
use Rattle.scsi_cdb.specs.declared.operation.ReservationClass.{ReservationClass}
use Rattle.scsi_cdb.specs.declared.operation.ReservationClass.TheVariants.{Always, Reading, Writing}
use Rattle.scsi_cdb.specs.declared.operation.Row.{Row}

abbrev pub row : Operation → Bool → Bool → Need → ReservationClass → Row
row operation attention missing needs reservation = record {
  operation = operation;
  passes_attention = attention;
  passes_missing_unit = missing;
  needs = needs;
  reservation = reservation;
}

-- a row with its operation code
pub record Entry : Type 0 where
  pub code : ℕ
  pub row : Row

abbrev pub entry : ℕ → Row → Entry
entry code row = record { code = code; row = row }

-- SPC-4, SBC-3 and SSC-4, each in "Commands": the code, and what it names, of units of every kind, of disks or of
-- tapes. Then whether it passes an attention, passes a missing unit; what it needs of the unit; its class for
-- reservations
abbrev pub operation_table : List Entry
operation_table =
    --                            passes: attention  missing unit  needs
    entry 0x00 (row (Unit TestUnitReady) false false Ready Always)
    ∷ entry 0x01 (row (Tape Rewind) false false Ready Writing)
    ∷ entry 0x03 (row (Unit RequestSense) true true Nothing Always)
    ∷ entry 0x05 (row (Tape ReadBlockLimits) false false Nothing Always)
    ∷ entry 0x08 (row (Tape Read6) false false Ready Writing)
    ∷ entry 0x0a (row (Tape Write6) false false Ready Writing)
    ∷ entry 0x10 (row (Tape WriteFilemarks6) false false Ready Writing)
    ∷ entry 0x11 (row (Tape Space6) false false Ready Writing)
    ∷ entry 0x12 (row (Unit Inquiry) true true Nothing Always)
    ∷ entry 0x15 (row (Unit ModeSelect6) false false Nothing Writing)
    ∷ entry 0x19 (row (Tape Erase6) false false Ready Writing)
    ∷ entry 0x1a (row (Unit ModeSense6) false false Nothing Reading)
    ∷ entry 0x1b (row (Tape LoadUnload) false false Working Writing)
    ∷ entry 0x25 (row (Disk ReadCapacity10) false false Nothing Always)
    ∷ entry 0x28 (row (Disk Read10) false false Ready Reading)
    ∷ entry 0x2a (row (Disk Write10) false false Ready Writing)
    ∷ entry 0x2b (row (Tape Locate10) false false Ready Writing)
    ∷ entry 0x2f (row (Disk Verify10) false false Ready Reading)
    ∷ entry 0x34 (row (Tape ReadPosition) false false Ready Reading)
    ∷ entry 0x35 (row (Disk SynchronizeCache10) false false Ready Writing)
    ∷ entry 0x41 (row (Disk WriteSame10) false false Ready Writing)
    ∷ entry 0x55 (row (Unit ModeSelect10) false false Nothing Writing)
    ∷ entry 0x5a (row (Unit ModeSense10) false false Nothing Reading)
    ∷ entry 0x5e (row (Unit PersistentReserveIn) false false Nothing Always)
    ∷ entry 0x5f (row (Unit PersistentReserveOut) false false Nothing Always)
    ∷ entry 0x88 (row (Disk Read16) false false Ready Reading)
    ∷ entry 0x89 (row (Disk CompareAndWrite) false false Ready Writing)
    ∷ entry 0x8a (row (Disk Write16) false false Ready Writing)
    ∷ entry 0x8f (row (Disk Verify16) false false Ready Reading)
    ∷ entry 0x91 (row (Disk SynchronizeCache16) false false Ready Writing)
    ∷ entry 0x93 (row (Disk WriteSame16) false false Ready Writing)
    ∷ entry 0x9e (row (Disk ServiceActionIn16) false false Nothing Always)
    ∷ entry 0xa0 (row (Unit ReportLuns) true false Nothing Always)
    ∷ []

abbrev pub row_in : List Entry → ℕ → Option Row
row_in [] code = None
row_in (entry ∷ entries) code = if code == entry.code then Some entry.row else row_in entries code

-- the row of an operation code
abbrev pub row_of : ℕ → Option Row
row_of code = row_in operation_table code

-- whether units of this kind have an operation
abbrev pub is_for : Kind → Operation → Bool
is_for kind (Unit operation) = true
is_for kind.Disk (Disk operation) = true
is_for kind.Tape (Disk operation) = false
is_for kind.Disk (Tape operation) = false
is_for kind.Tape (Tape operation) = true

-- SPC-4 "REPORT LUNS command": it is of the target, and no other operation is
abbrev pub is_of_target : Operation → Bool
is_of_target (Unit TestUnitReady) = false
is_of_target (Unit RequestSense) = false
is_of_target (Unit Inquiry) = false
is_of_target (Unit ModeSelect6) = false
is_of_target (Unit ModeSelect10) = false
is_of_target (Unit ModeSense6) = false
is_of_target (Unit ModeSense10) = false
is_of_target (Unit PersistentReserveIn) = false
is_of_target (Unit PersistentReserveOut) = false
is_of_target (Unit ReportLuns) = true
is_of_target (Disk operation) = false
is_of_target (Tape operation) = false

abbrev pub row_if : Kind → Option Row → Option Row
row_if kind None = None
row_if kind (Some row) = if is_for kind row.operation then Some row else None

-- the row of an operation code that units of this kind have
abbrev pub row_for : Kind → ℕ → Option Row
row_for kind code = row_if kind (row_of code)

-- the class for reservations of an operation code that units of this kind have
abbrev pub class_of : Kind → ℕ → Option ReservationClass
class_of kind code = option_map (λ row. row.reservation) (row_for kind code)

-- The class for reservations of each operation, computed.
use Rattle.std.specs.Prelude.{◌≡◌, ℕ, [], ◌∷◌, map, Some, None, refl}
use Rattle.scsi_cdb.specs.Operation.{Entry, operation_table, class_of}
use Rattle.scsi_cdb.specs.declared.operation.Kind.TheVariants.{Disk, Tape}
use Rattle.scsi_cdb.specs.declared.operation.ReservationClass.{ReservationClass}
use Rattle.scsi_cdb.specs.declared.operation.ReservationClass.TheVariants.{Always, Reading, Writing}

-- each code of the table with its class
abbrev class_in : Entry → ℕ × ReservationClass
class_in entry = (entry.code, entry.row.reservation)

all_classes : map class_in operation_table ≡
    (0x00, Always) ∷ (0x01, Writing) ∷ (0x03, Always) ∷ (0x05, Always) ∷ (0x08, Writing) ∷ (0x0a, Writing) ∷ (0x10, Writing)
    ∷ (0x11, Writing) ∷ (0x12, Always) ∷ (0x15, Writing) ∷ (0x19, Writing) ∷ (0x1a, Reading) ∷ (0x1b, Writing) ∷ (0x25, Always)
    ∷ (0x28, Reading) ∷ (0x2a, Writing) ∷ (0x2b, Writing) ∷ (0x2f, Reading) ∷ (0x34, Reading) ∷ (0x35, Writing) ∷ (0x41, Writing)
    ∷ (0x55, Writing) ∷ (0x5a, Reading) ∷ (0x5e, Always) ∷ (0x5f, Always) ∷ (0x88, Reading) ∷ (0x89, Writing) ∷ (0x8a, Writing)
    ∷ (0x8f, Reading) ∷ (0x91, Writing) ∷ (0x93, Writing) ∷ (0x9e, Always) ∷ (0xa0, Always) ∷ []
all_classes = refl

-- READ (10) is of disks alone, READ (6) of tapes
classes : (class_of Disk 0x28 ≡ Some Reading) × (class_of Tape 0x28 ≡ None) × (class_of Tape 0x15 ≡ Some Writing)
    × (class_of Disk 0x08 ≡ None) × (class_of Tape 0x08 ≡ Some Writing)
classes = (refl, refl, refl, refl, refl)

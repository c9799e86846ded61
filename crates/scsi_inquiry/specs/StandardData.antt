-- Standard INQUIRY data (SPC-4 "Standard INQUIRY data").
use Rattle.std.specs.Prelude.{ℕ, List, ◌∷◌, ◌++◌, codes}
use Rattle.scsi_cdb.specs.declared.operation.Kind.TheVariants.{Disk, Tape}
use Rattle.scsi_inquiry.specs.declared.peripheral.Peripheral.{Peripheral}
use Rattle.scsi_inquiry.specs.declared.peripheral.Peripheral.TheVariants.{Unit, NoUnit}

-- SPC-4 "Standard INQUIRY data": byte 0, the peripheral qualifier in bits 7 to 5, then the peripheral device type
abbrev pub peripheral_byte : Peripheral → ℕ
peripheral_byte (Unit Disk) = 0x00
peripheral_byte (Unit Tape) = 0x01
peripheral_byte NoUnit = 0x7f

-- SPC-4 "Standard INQUIRY data": byte 1, RMB in bit 7: the medium is removable
abbrev pub removable_byte : Peripheral → ℕ
removable_byte (Unit Tape) = 0x80
removable_byte peripheral = 0

-- profile: T10 VENDOR IDENTIFICATION
abbrev pub vendor : List ℕ
vendor = codes "ISCSIPRJ"

-- profile: PRODUCT IDENTIFICATION, filled with spaces
abbrev pub product : Peripheral → List ℕ
product (Unit Tape) = codes "VIRTUAL TAPE    "
product peripheral = codes "VIRTUAL DISK    "

-- profile: PRODUCT REVISION LEVEL
abbrev pub revision : List ℕ
revision = codes "0001"

-- SPC-4 "Standard INQUIRY data": bytes 0 and 1; VERSION is SPC-4 (06h); RESPONSE DATA FORMAT 2; 31 bytes
-- follow; CMDQUE is bit 1 of byte 7; then vendor, product and revision
abbrev pub standard_data : Peripheral → List ℕ
standard_data peripheral =
    peripheral_byte peripheral ∷ removable_byte peripheral ∷ 0x06 ∷ 0x02 ∷ 0x1f ∷ 0 ∷ 0 ∷ 0x02
    ∷ vendor ++ product peripheral ++ revision

-- Data of INQUIRY and REPORT LUNS, computed.
use Rattle.std.specs.Prelude.{◌≡◌, [], ◌∷◌, ◌++◌, codes, replicate, Some, None, refl}
use Rattle.scsi_cdb.specs.declared.operation.Kind.TheVariants.{Disk, Tape}
use Rattle.scsi_cdb.specs.declared.report_luns.SelectReport.TheVariants.{LogicalUnits, WellKnown, All}
use Rattle.scsi_inquiry.specs.StandardData.{standard_data}
use Rattle.scsi_inquiry.specs.ProductData.{page_of, page_data}
use Rattle.scsi_inquiry.specs.Luns.{rising, lun_data}
use Rattle.scsi_inquiry.specs.declared.peripheral.Peripheral.TheVariants.{Unit, NoUnit}
use Rattle.scsi_inquiry.specs.declared.vpd_page.VpdPage.TheVariants.{SupportedPages, UnitSerialNumber, DeviceIdentification, BlockLimits, BlockDeviceCharacteristics}

-- 000006021f000002 495343534950524a 5649525455414c204449534b20202020 30303031
disk : standard_data (Unit Disk) ≡
    0x00 ∷ 0x00 ∷ 0x06 ∷ 0x02 ∷ 0x1f ∷ 0x00 ∷ 0x00 ∷ 0x02
    ∷ 0x49 ∷ 0x53 ∷ 0x43 ∷ 0x53 ∷ 0x49 ∷ 0x50 ∷ 0x52 ∷ 0x4a
    ∷ 0x56 ∷ 0x49 ∷ 0x52 ∷ 0x54 ∷ 0x55 ∷ 0x41 ∷ 0x4c ∷ 0x20 ∷ 0x44 ∷ 0x49 ∷ 0x53 ∷ 0x4b ∷ 0x20 ∷ 0x20 ∷ 0x20 ∷ 0x20
    ∷ 0x30 ∷ 0x30 ∷ 0x30 ∷ 0x31 ∷ []
disk = refl

-- 018006021f000002 495343534950524a 5649525455414c205441504520202020 30303031
tape : standard_data (Unit Tape) ≡
    0x01 ∷ 0x80 ∷ 0x06 ∷ 0x02 ∷ 0x1f ∷ 0x00 ∷ 0x00 ∷ 0x02
    ∷ 0x49 ∷ 0x53 ∷ 0x43 ∷ 0x53 ∷ 0x49 ∷ 0x50 ∷ 0x52 ∷ 0x4a
    ∷ 0x56 ∷ 0x49 ∷ 0x52 ∷ 0x54 ∷ 0x55 ∷ 0x41 ∷ 0x4c ∷ 0x20 ∷ 0x54 ∷ 0x41 ∷ 0x50 ∷ 0x45 ∷ 0x20 ∷ 0x20 ∷ 0x20 ∷ 0x20
    ∷ 0x30 ∷ 0x30 ∷ 0x30 ∷ 0x31 ∷ []
tape = refl

-- a LUN that names no unit: qualifier 011b, device type 1Fh, and else as a disk
no_unit : standard_data NoUnit ≡ 0x7f ∷ 0x00 ∷ 0x06 ∷ 0x02 ∷ 0x1f ∷ 0x00 ∷ 0x00 ∷ 0x02 ∷ codes "ISCSIPRJVIRTUAL DISK    0001"
no_unit = refl

-- a tape has no B0h, and C0h is no page
pages : (page_of 0x83 Tape ≡ Some DeviceIdentification) × (page_of 0xb0 Disk ≡ Some BlockLimits) × (page_of 0xb0 Tape ≡ None) × (page_of 0xc0 Disk ≡ None)
pages = (refl, refl, refl, refl)

supported : (page_data Disk [] SupportedPages ≡ 0x00 ∷ 0x00 ∷ 0x00 ∷ 0x05 ∷ 0x00 ∷ 0x80 ∷ 0x83 ∷ 0xb0 ∷ 0xb1 ∷ [])
    × (page_data Tape [] SupportedPages ≡ 0x01 ∷ 0x00 ∷ 0x00 ∷ 0x03 ∷ 0x00 ∷ 0x80 ∷ 0x83 ∷ [])
supported = (refl, refl)

serial_number : page_data Tape (codes "T1") UnitSerialNumber ≡ 0x01 ∷ 0x80 ∷ 0x00 ∷ 0x02 ∷ 0x54 ∷ 0x31 ∷ []
serial_number = refl

-- 0083000e 0201000a 495343534950524a 4430
identification : page_data Disk (codes "D0") DeviceIdentification ≡
    0x00 ∷ 0x83 ∷ 0x00 ∷ 0x0e ∷ 0x02 ∷ 0x01 ∷ 0x00 ∷ 0x0a ∷ 0x49 ∷ 0x53 ∷ 0x43 ∷ 0x53 ∷ 0x49 ∷ 0x50 ∷ 0x52 ∷ 0x4a ∷ 0x44 ∷ 0x30 ∷ []
identification = refl

-- 64 bytes: 00 B0 00 3C, 01 80 00 00, 00 00 08 00, 24 zero bytes, 00 00 00 00 00 00 80 00, 20 zero bytes
limits : page_data Disk (codes "D0") BlockLimits ≡
    0x00 ∷ 0xb0 ∷ 0x00 ∷ 0x3c ∷ 0x01 ∷ 0x80 ∷ 0x00 ∷ 0x00 ∷ 0x00 ∷ 0x00 ∷ 0x08 ∷ 0x00
    ∷ replicate 24 0x00 ++ 0x00 ∷ 0x00 ∷ 0x00 ∷ 0x00 ∷ 0x00 ∷ 0x00 ∷ 0x80 ∷ 0x00 ∷ replicate 20 0x00
limits = refl

characteristics : page_data Disk (codes "D0") BlockDeviceCharacteristics ≡ 0x00 ∷ 0xb1 ∷ 0x00 ∷ 0x3c ∷ replicate 60 0x00
characteristics = refl

-- LUN 0 and LUN 1, in either order: 00000010 00000000 0000000000000000 0001000000000000
two_units : (lun_data LogicalUnits (0 ∷ 1 ∷ []) ≡ 0x00 ∷ 0x00 ∷ 0x00 ∷ 0x10 ∷ replicate 4 0 ++ replicate 8 0 ++ 0x00 ∷ 0x01 ∷ replicate 6 0)
    × (lun_data All (1 ∷ 0 ∷ []) ≡ 0x00 ∷ 0x00 ∷ 0x00 ∷ 0x10 ∷ replicate 4 0 ++ replicate 8 0 ++ 0x00 ∷ 0x01 ∷ replicate 6 0)
unfolding rising
two_units = (refl, refl)

-- the greatest number is FFh
greatest : lun_data All (0xff ∷ 0 ∷ []) ≡ 0x00 ∷ 0x00 ∷ 0x00 ∷ 0x10 ∷ replicate 4 0 ++ replicate 8 0 ++ 0x00 ∷ 0xff ∷ replicate 6 0
unfolding rising
greatest = refl

no_well_known : lun_data WellKnown (0 ∷ 1 ∷ []) ≡ replicate 8 0
no_well_known = refl

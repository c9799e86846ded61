-- Vital product data pages (SPC-4, SBC-3 "Vital product data parameters").
use Rattle.std.specs.Prelude.{ℕ, List, [], ◌∷◌, ◌++◌, map, length, filter, replicate, Bool, true, false, ◌==◌, ◌&&◌, Option, Some, None, if◌then◌else◌}
use Rattle.std.specs.Int.{w16, w32, w64, to_be_bytes}
use Rattle.scsi_cdb.specs.declared.operation.Kind.{Kind}
use Rattle.scsi_cdb.specs.declared.operation.Kind.TheVariants.{Disk, Tape}
use Rattle.scsi_cdb.specs.Range.{most_blocks, most_compared, most_same}
use Rattle.scsi_inquiry.specs.StandardData.{peripheral_byte, vendor}
use Rattle.scsi_inquiry.specs.declared.peripheral.Peripheral.TheVariants.{Unit}
use Rattle.scsi_inquiry.specs.declared.vpd_page.VpdPage.{VpdPage}
use Rattle.scsi_inquiry.specs.declared.vpd_page.VpdPage.TheVariants.{SupportedPages, UnitSerialNumber, DeviceIdentification, BlockLimits, BlockDeviceCharacteristics}

-- a row of the table of pages: the page code, the kinds of unit that have it, and the page
pub record Row : Type 0 where
  pub code : ℕ
  pub disk : Bool
  pub tape : Bool
  pub page : VpdPage

abbrev pub row : ℕ → Bool → Bool → VpdPage → Row
row code disk tape page = record { code = code; disk = disk; tape = tape; page = page }

-- SPC-4 "Vital product data page codes", SBC-3 "Vital product data parameters": the code, then whether a disk has it and a tape has it
abbrev pub page_codes : List Row
page_codes =
    row 0x00 true true SupportedPages
    ∷ row 0x80 true true UnitSerialNumber
    ∷ row 0x83 true true DeviceIdentification
    ∷ row 0xb0 true false BlockLimits
    ∷ row 0xb1 true false BlockDeviceCharacteristics
    ∷ []

-- whether the row is for this kind of unit
abbrev pub is_for : Kind → Row → Bool
is_for Disk row = row.disk
is_for Tape row = row.tape

-- the page of the first row for this code and kind
abbrev pub page_in : List Row → ℕ → Kind → Option VpdPage
page_in [] code kind = None
page_in (row ∷ rows) code kind = if code == row.code && is_for kind row then Some row.page else page_in rows code kind

-- SPC-4 "INQUIRY command": the page of this code that a unit of this kind has
abbrev pub page_of : ℕ → Kind → Option VpdPage
page_of code kind = page_in page_codes code kind

-- SPC-4 "Vital product data page codes"
abbrev pub page_code : VpdPage → ℕ
page_code SupportedPages = 0x00
page_code UnitSerialNumber = 0x80
page_code DeviceIdentification = 0x83
page_code BlockLimits = 0xb0
page_code BlockDeviceCharacteristics = 0xb1

-- profile: the most bytes of a serial number
abbrev pub most_serial : ℕ
most_serial = 32

-- SPC-4 "Supported VPD pages VPD page": the codes of the unit's pages, rising
abbrev pub supported_pages : Kind → List ℕ
supported_pages kind = map (λ row. row.code) (filter (is_for kind) page_codes)

-- SPC-4 "Device Identification VPD page": one designator, in ASCII (2h), of the logical unit, of the type T10 vendor ID based (1h)
abbrev pub designator : List ℕ → List ℕ
designator serial = 0x02 ∷ 0x01 ∷ 0 ∷ length (vendor ++ serial) ∷ vendor ++ serial

-- SBC-3 "Block Limits VPD page": WSNZ in byte 4, MAXIMUM COMPARE AND WRITE LENGTH in byte 5, MAXIMUM TRANSFER LENGTH in
-- bytes 8 to 11, the most blocks of one READ, MAXIMUM WRITE SAME LENGTH in bytes 36 to 43
abbrev pub block_limits : List ℕ
block_limits =
    0x01 ∷ most_compared ∷ replicate 2 0 ++ to_be_bytes w32 most_blocks ++ replicate 24 0 ++ to_be_bytes w64 most_same ++ replicate 20 0

-- what comes after the first four bytes of a page
abbrev pub page_parameters : Kind → List ℕ → VpdPage → List ℕ
page_parameters kind serial SupportedPages = supported_pages kind
page_parameters kind serial UnitSerialNumber = serial
page_parameters kind serial DeviceIdentification = designator serial
page_parameters kind serial BlockLimits = block_limits
-- SBC-3 "Block Device Characteristics VPD page": neither the rate of rotation nor a form factor is reported
page_parameters kind serial BlockDeviceCharacteristics = replicate 60 0

-- SPC-4 "Vital product data page format": as byte 0 of standard INQUIRY data, the page code, the length of the rest, the rest
abbrev pub page_data : Kind → List ℕ → VpdPage → List ℕ
page_data kind serial page =
    peripheral_byte (Unit kind) ∷ page_code page ∷ to_be_bytes w16 (length (page_parameters kind serial page)) ++ page_parameters kind serial page

-- Mode parameters, computed.
use Rattle.std.specs.Prelude.{◌≡◌, ◌^◌, List, ℕ, [], ◌∷◌, ◌++◌, true, false, replicate, Some, None, Ok, Err, refl}
use Rattle.scsi_cdb.specs.declared.mode.PageControl.{PageControl}
use Rattle.scsi_cdb.specs.declared.mode.PageControl.TheVariants.{Current, Changeable, Default}
use Rattle.scsi_cdb.specs.declared.mode.ParameterHeader.{ParameterHeader}
use Rattle.scsi_cdb.specs.declared.mode.ParameterHeader.TheVariants.{Six, Ten}
use Rattle.scsi_cdb.specs.declared.mode.ModeSenseFields.{ModeSenseFields}
use Rattle.scsi_mode.specs.declared.list_fault.ListFault.TheVariants.{EndsEarly, InvalidField}
use Rattle.scsi_mode.specs.ModePages.{differ}
use Rattle.scsi_mode.specs.ModeData.{mode_data}
use Rattle.scsi_mode.specs.ParameterList.{is_page, after_page, has_page, after_pages, after_descriptor, after_header, selected}
use Rattle.scsi_mode.specs.declared.parameters.Parameters.{Parameters}
use Rattle.scsi_mode.specs.declared.parameters.Parameters.TheVariants.{Disk, Tape}

-- ---- MODE SENSE

abbrev asked : ParameterHeader → PageControl → ℕ → ModeSenseFields
asked header control page = record { header = header; block_descriptor = true; control = control; page = page; allocation_length = 255 }

abbrev without_descriptor : PageControl → ℕ → ModeSenseFields
without_descriptor control page = record { header = Six; block_descriptor = false; control = control; page = page; allocation_length = 255 }

abbrev disk : Parameters
disk = Disk 4096 false

-- 2b001008 00001000 00000200, 081204 and 17 zero bytes, 0a0a and 10 zero bytes
all_pages_of_a_disk : mode_data (asked Six Current 0x3f) disk ≡ Some
    (0x2b ∷ 0x00 ∷ 0x10 ∷ 0x08 ∷ 0x00 ∷ 0x00 ∷ 0x10 ∷ 0x00 ∷ 0x00 ∷ 0x00 ∷ 0x02 ∷ 0x00
    ∷ 0x08 ∷ 0x12 ∷ 0x04 ∷ replicate 17 0 ++ 0x0a ∷ 0x0a ∷ replicate 10 0)
all_pages_of_a_disk = refl

-- a disk of 1 block and one of 2^20: only the number of blocks differs
other_disks : (mode_data (asked Six Current 0x3f) (Disk 1 false) ≡ Some
    (0x2b ∷ 0x00 ∷ 0x10 ∷ 0x08 ∷ 0x00 ∷ 0x00 ∷ 0x00 ∷ 0x01 ∷ 0x00 ∷ 0x00 ∷ 0x02 ∷ 0x00
    ∷ 0x08 ∷ 0x12 ∷ 0x04 ∷ replicate 17 0 ++ 0x0a ∷ 0x0a ∷ replicate 10 0))
    × (mode_data (asked Six Current 0x3f) (Disk 1048576 false) ≡ Some
    (0x2b ∷ 0x00 ∷ 0x10 ∷ 0x08 ∷ 0x00 ∷ 0x10 ∷ 0x00 ∷ 0x00 ∷ 0x00 ∷ 0x00 ∷ 0x02 ∷ 0x00
    ∷ 0x08 ∷ 0x12 ∷ 0x04 ∷ replicate 17 0 ++ 0x0a ∷ 0x0a ∷ replicate 10 0))
other_disks = (refl, refl)

-- more blocks than four bytes hold: FFFFFFFFh
many_blocks : mode_data (asked Six Current 0x00) (Disk (2 ^ 33) false) ≡ Some
    (0x0b ∷ 0x00 ∷ 0x10 ∷ 0x08 ∷ 0xff ∷ 0xff ∷ 0xff ∷ 0xff ∷ 0x00 ∷ 0x00 ∷ 0x02 ∷ 0x00 ∷ [])
many_blocks = refl

-- of a tape: 17001008 00000000 00000000, 0a0a and 10 zero bytes
all_pages_of_a_tape : mode_data (asked Six Current 0x3f) (Tape 0) ≡ Some
    (0x17 ∷ 0x00 ∷ 0x10 ∷ 0x08 ∷ replicate 8 0 ++ 0x0a ∷ 0x0a ∷ replicate 10 0)
all_pages_of_a_tape = refl

-- a tape's block length, 20 bytes, 1048576 bytes and by MODE SENSE (10): the same for each page control
block_length : (mode_data (asked Six Current 0x00) (Tape 20) ≡ Some (0x0b ∷ 0x00 ∷ 0x10 ∷ 0x08 ∷ replicate 7 0 ++ 0x14 ∷ []))
    × (mode_data (asked Six Changeable 0x00) (Tape 20) ≡ Some (0x0b ∷ 0x00 ∷ 0x10 ∷ 0x08 ∷ replicate 7 0 ++ 0x14 ∷ []))
    × (mode_data (asked Six Default 0x00) (Tape 20) ≡ Some (0x0b ∷ 0x00 ∷ 0x10 ∷ 0x08 ∷ replicate 7 0 ++ 0x14 ∷ []))
    × (mode_data (asked Six Current 0x00) (Tape 1048576) ≡ Some (0x0b ∷ 0x00 ∷ 0x10 ∷ 0x08 ∷ replicate 5 0 ++ 0x10 ∷ 0x00 ∷ 0x00 ∷ []))
    × (mode_data (asked Ten Current 0x00) (Tape 20) ≡ Some (0x00 ∷ 0x0e ∷ 0x00 ∷ 0x10 ∷ 0x00 ∷ 0x00 ∷ 0x00 ∷ 0x08 ∷ replicate 7 0 ++ 0x14 ∷ []))
block_length = (refl, refl, refl, refl, refl)

-- MODE SENSE (10): 002e1000 00000008, then as above
longer_header : mode_data (asked Ten Current 0x3f) disk ≡ Some
    (0x00 ∷ 0x2e ∷ 0x00 ∷ 0x10 ∷ 0x00 ∷ 0x00 ∷ 0x00 ∷ 0x08 ∷ 0x00 ∷ 0x00 ∷ 0x10 ∷ 0x00 ∷ 0x00 ∷ 0x00 ∷ 0x02 ∷ 0x00
    ∷ 0x08 ∷ 0x12 ∷ 0x04 ∷ replicate 17 0 ++ 0x0a ∷ 0x0a ∷ replicate 10 0)
longer_header = refl

-- page 00h: header and descriptor alone; with DBD the header alone
page_00 : (mode_data (asked Six Current 0x00) (Tape 0) ≡ Some (0x0b ∷ 0x00 ∷ 0x10 ∷ 0x08 ∷ replicate 8 0))
    × (mode_data (without_descriptor Current 0x00) (Tape 0) ≡ Some (0x03 ∷ 0x00 ∷ 0x10 ∷ 0x00 ∷ []))
page_00 = (refl, refl)

-- with SWP set: WP in the header, and bit 3 of byte 4 of page 0Ah
protected : mode_data (without_descriptor Current 0x0a) (Disk 4096 true) ≡ Some (0x0f ∷ 0x00 ∷ 0x90 ∷ 0x00 ∷ 0x0a ∷ 0x0a ∷ 0x00 ∷ 0x00 ∷ 0x08 ∷ replicate 7 0)
protected = refl

-- what can be changed: a disk's SWP alone; the header shows SWP as it is
changeable : (mode_data (without_descriptor Changeable 0x3f) (Disk 4096 true) ≡ Some (0x23 ∷ 0x00 ∷ 0x90 ∷ 0x00 ∷ 0x08 ∷ 0x12 ∷ replicate 18 0
    ++ 0x0a ∷ 0x0a ∷ 0x00 ∷ 0x00 ∷ 0x08 ∷ replicate 7 0))
    × (mode_data (without_descriptor Changeable 0x0a) (Tape 0) ≡ Some (0x0f ∷ 0x00 ∷ 0x10 ∷ 0x00 ∷ 0x0a ∷ 0x0a ∷ replicate 10 0))
changeable = (refl, refl)

-- the default of SWP is 0, that of WCE is 1
defaults : mode_data (without_descriptor Default 0x3f) (Disk 4096 true) ≡ Some (0x23 ∷ 0x00 ∷ 0x90 ∷ 0x00 ∷ 0x08 ∷ 0x12 ∷ 0x04 ∷ replicate 17 0
    ++ 0x0a ∷ 0x0a ∷ replicate 10 0)
defaults = refl

-- a tape has no page 08h, and no unit has 1Ch
no_page : (mode_data (asked Six Current 0x08) (Tape 0) ≡ None) × (mode_data (asked Six Current 0x1c) disk ≡ None)
no_page = (refl, refl)

-- ---- MODE SELECT

abbrev control : ℕ → List ℕ
control protect = 0x0a ∷ 0x0a ∷ 0 ∷ 0 ∷ protect ∷ replicate 7 0

-- header, no descriptor, page 0Ah with SWP
sets_swp : (selected disk Six (0 ∷ 0 ∷ 0 ∷ 0 ∷ control 0x08) ≡ Ok (Disk 4096 true))
    × (selected disk Ten (replicate 8 0 ++ control 0x08) ≡ Ok (Disk 4096 true))
    × (selected (Disk 4096 true) Six (0 ∷ 0 ∷ 0 ∷ 0 ∷ control 0) ≡ Ok (Disk 4096 false))
unfolding selected after_header after_pages has_page after_page is_page
sets_swp = (refl, refl, refl)

-- what MODE SENSE returned is accepted, with PS set and the first three bytes ignored
taken_back : selected (Disk 4096 true) Six
    (0x2b ∷ 0xff ∷ 0x90 ∷ 0x08 ∷ 0x00 ∷ 0x00 ∷ 0x10 ∷ 0x00 ∷ 0x00 ∷ 0x00 ∷ 0x02 ∷ 0x00
    ∷ 0x88 ∷ 0x12 ∷ 0x04 ∷ replicate 17 0 ++ 0x8a ∷ 0x0a ∷ 0 ∷ 0 ∷ 0x08 ∷ replicate 7 0) ≡ Ok (Disk 4096 true)
unfolding selected after_header after_descriptor after_pages has_page after_page is_page
taken_back = refl

-- page 0Ah twice: the last SWP counts. An empty list, and one with no page, change nothing
last_counts : (selected disk Six (0 ∷ 0 ∷ 0 ∷ 0 ∷ control 0x08 ++ control 0) ≡ Ok (Disk 4096 false))
    × (selected (Disk 4096 true) Six [] ≡ Ok (Disk 4096 true)) × (selected (Disk 4096 true) Six (replicate 4 0) ≡ Ok (Disk 4096 true))
unfolding selected after_header after_pages has_page after_page is_page
last_counts = (refl, refl, refl)

abbrev tape_descriptor : ℕ → ℕ → ℕ → List ℕ
tape_descriptor b5 b6 b7 = replicate 5 0 ++ b5 ∷ b6 ∷ b7 ∷ []

-- a tape's block length: 20 by both commands, 0, and 1048576 with page 0Ah; a list without a descriptor leaves it
sets_block_length : (selected (Tape 0) Six (0 ∷ 0 ∷ 0 ∷ 8 ∷ tape_descriptor 0 0 0x14) ≡ Ok (Tape 20))
    × (selected (Tape 0) Ten (replicate 7 0 ++ 8 ∷ tape_descriptor 0 0 0x14) ≡ Ok (Tape 20))
    × (selected (Tape 20) Six (0 ∷ 0 ∷ 0 ∷ 8 ∷ tape_descriptor 0 0 0) ≡ Ok (Tape 0))
    × (selected (Tape 20) Six (0 ∷ 0 ∷ 0 ∷ 8 ∷ tape_descriptor 0x10 0 0 ++ control 0) ≡ Ok (Tape 1048576))
    × (selected (Tape 20) Six (0 ∷ 0 ∷ 0 ∷ 0 ∷ control 0) ≡ Ok (Tape 20))
unfolding selected after_header after_descriptor after_pages has_page after_page is_page
sets_block_length = (refl, refl, refl, refl, refl)

-- one byte more, density code 1, a page after it that is refused, a descriptor that ends early
leaves_block_length : (selected (Tape 20) Six (0 ∷ 0 ∷ 0 ∷ 8 ∷ tape_descriptor 0x10 0 1) ≡ Err InvalidField)
    × (selected (Tape 20) Six (0 ∷ 0 ∷ 0 ∷ 8 ∷ 1 ∷ 0 ∷ 0 ∷ 0 ∷ 0 ∷ 0 ∷ 0 ∷ 0x14 ∷ []) ≡ Err InvalidField)
    × (selected (Tape 20) Six (0 ∷ 0 ∷ 0 ∷ 8 ∷ tape_descriptor 0 0 0x08 ++ control 0x08) ≡ Err InvalidField)
    × (selected (Tape 20) Six (0 ∷ 0 ∷ 0 ∷ 8 ∷ replicate 7 0) ≡ Err EndsEarly)
unfolding selected after_header after_descriptor after_pages has_page after_page is_page
leaves_block_length = (refl, refl, refl, refl)

-- what differs: SWP, a block length; and what does not
differences : (differ disk (Disk 4096 true) ≡ true) × (differ (Tape 20) (Tape 0) ≡ true)
    × (differ disk disk ≡ false) × (differ (Disk 4096 true) (Disk 4096 true) ≡ false) × (differ (Tape 20) (Tape 20) ≡ false)
differences = (refl, refl, refl, refl, refl)

-- a header, a descriptor, the first two bytes of a page, and a page that end early
ends_early : (selected disk Six (0 ∷ 0 ∷ 0 ∷ []) ≡ Err EndsEarly) × (selected disk Six (0 ∷ 0 ∷ 0 ∷ 8 ∷ 0 ∷ []) ≡ Err EndsEarly)
    × (selected disk Six (0 ∷ 0 ∷ 0 ∷ 0 ∷ 0x0a ∷ []) ≡ Err EndsEarly) × (selected disk Six
    (0 ∷ 0 ∷ 0 ∷ 0 ∷ 0x0a ∷ 0x0a ∷ 0 ∷ 0 ∷ 0x08 ∷ replicate 6 0) ≡ Err EndsEarly)
unfolding selected after_header after_descriptor after_pages has_page after_page is_page
ends_early = (refl, refl, refl, refl)

-- a descriptor length of 7, even if the list ends there; a block length of 1024; another number of blocks; another bit
-- of page 0Ah; a page of another length; a tape's SWP and page 08h
is_refused : (selected disk Six (0 ∷ 0 ∷ 0 ∷ 7 ∷ []) ≡ Err InvalidField)
    × (selected disk Six (0 ∷ 0 ∷ 0 ∷ 8 ∷ 0 ∷ 0 ∷ 0 ∷ 0 ∷ 0 ∷ 0 ∷ 0x04 ∷ 0 ∷ []) ≡ Err InvalidField)
    × (selected disk Six (0 ∷ 0 ∷ 0 ∷ 8 ∷ 0 ∷ 0 ∷ 0x0f ∷ 0xff ∷ 0 ∷ 0 ∷ 0x02 ∷ 0 ∷ []) ≡ Err InvalidField)
    × (selected disk Six (0 ∷ 0 ∷ 0 ∷ 0 ∷ control 0x0c) ≡ Err InvalidField)
    × (selected disk Six (0 ∷ 0 ∷ 0 ∷ 0 ∷ 0x0a ∷ 0x02 ∷ 0 ∷ 0 ∷ []) ≡ Err InvalidField) × (selected (Tape 0) Six (0 ∷ 0 ∷ 0 ∷ 0 ∷ control 0x08) ≡ Err InvalidField)
    × (selected (Tape 0) Six (0 ∷ 0 ∷ 0 ∷ 0 ∷ 0x08 ∷ 0x12 ∷ 0x04 ∷ replicate 17 0) ≡ Err InvalidField)
unfolding selected after_header after_descriptor after_pages has_page after_page is_page
is_refused = (refl, refl, refl, refl, refl, refl, refl)

-- the first fault counts: a page that is refused, then one that ends early; and the other way round
first_fault : (selected disk Six (0 ∷ 0 ∷ 0 ∷ 0 ∷ control 0x0c ++ 0x0a ∷ []) ≡ Err InvalidField)
    × (selected disk Six (0 ∷ 0 ∷ 0 ∷ 0 ∷ 0x0a ∷ 0x0c ∷ 0xff ∷ []) ≡ Err EndsEarly)
unfolding selected after_header after_pages has_page after_page is_page
first_fault = (refl, refl)

-- descriptors that change nothing: no number of blocks, all blocks, the disk's own; of a tape any bytes 1 to 4
same_descriptors : (selected disk Six (0 ∷ 0 ∷ 0 ∷ 8 ∷ 0 ∷ 0 ∷ 0 ∷ 0 ∷ 0 ∷ 0 ∷ 0x02 ∷ 0 ∷ []) ≡ Ok (Disk 4096 false))
    × (selected disk Six (0 ∷ 0 ∷ 0 ∷ 8 ∷ 0xff ∷ 0xff ∷ 0xff ∷ 0xff ∷ 0 ∷ 0 ∷ 0x02 ∷ 0 ∷ []) ≡ Ok (Disk 4096 false))
    × (selected (Tape 0) Six (0 ∷ 0 ∷ 0 ∷ 8 ∷ 0 ∷ 1 ∷ 2 ∷ 3 ∷ 4 ∷ 0 ∷ 0 ∷ 0 ∷ []) ≡ Ok (Tape 0))
unfolding selected after_header after_descriptor after_pages
same_descriptors = (refl, refl, refl)

-- Command descriptor blocks read for a disk and a tape, computed. The number after them is the block length that a tape
-- has.
use Rattle.std.specs.Prelude.{◌≡◌, [], ◌∷◌, ◌++◌, true, false, Some, None, Ok, Err, replicate, refl}
use Rattle.scsi_cdb.specs.declared.command.Command.TheVariants as to
use Rattle.scsi_cdb.specs.declared.command.UnitCommand.TheVariants.{TestUnitReady, RequestSense, Inquiry, ModeSelect, ModeSense, ReportLuns}
use Rattle.scsi_cdb.specs.declared.command.DiskCommand.TheVariants.{Read, ReadCapacity10, ReadCapacity16, Write, Verify, VerifyData}
use Rattle.scsi_cdb.specs.declared.command.DiskCommand.TheVariants.{SynchronizeCache, WriteSame, CompareAndWrite}
use Rattle.scsi_cdb.specs.declared.operation.Kind.TheVariants.{Disk, Tape}
use Rattle.scsi_cdb.specs.Fault.{invalid_operation_code, invalid_field, saving_not_supported}
use Rattle.scsi_cdb.specs.Command.{command_of}
use Rattle.scsi_cdb.specs.declared.mode.ParameterHeader.TheVariants.{Six, Ten}
use Rattle.scsi_cdb.specs.declared.mode.PageControl.TheVariants.{Current, Changeable, Default}
use Rattle.scsi_cdb.specs.declared.report_luns.SelectReport.TheVariants.{LogicalUnits, WellKnown, All}

-- the control byte and what comes after it are ignored
test_unit_ready : (command_of (0x00 ∷ replicate 15 0xff) Disk 0 ≡ Ok (to.Unit TestUnitReady)) × (command_of (replicate 16 0x00) Tape 0 ≡ Ok (to.Unit TestUnitReady))
test_unit_ready = (refl, refl)

-- no operation of that kind has the code
unknown_code : (command_of (0x02 ∷ replicate 15 0) Tape 0 ≡ Err invalid_operation_code)
    × (command_of (0xff ∷ replicate 15 0) Disk 0 ≡ Err invalid_operation_code) × (command_of (0x28 ∷ replicate 15 0) Tape 0 ≡ Err invalid_operation_code)
unknown_code = (refl, refl, refl)

-- READ (10) of logical block address 01020304h, 0800h blocks; FUA, DPO and the group number are ignored
read_10 : command_of (0x28 ∷ 0x18 ∷ 0x01 ∷ 0x02 ∷ 0x03 ∷ 0x04 ∷ 0x1f ∷ 0x08 ∷ 0x00 ∷ 0x00 ∷ replicate 6 0) Disk 0
    ≡ Ok (to.Disk (Read (record { first = 0x01020304; count = 2048 })))
read_10 = refl

-- one block too many, and protection information
read_10_refused : (command_of (0x28 ∷ replicate 6 0 ++ 0x08 ∷ 0x01 ∷ replicate 7 0) Disk 0 ≡ Err invalid_field)
    × (command_of (0x28 ∷ 0x20 ∷ replicate 14 0) Disk 0 ≡ Err invalid_field)
read_10_refused = (refl, refl)

-- READ (16) of logical block address 0102030405060708h, 2 blocks
read_16 : command_of (0x88 ∷ 0x00 ∷ 0x01 ∷ 0x02 ∷ 0x03 ∷ 0x04 ∷ 0x05 ∷ 0x06 ∷ 0x07 ∷ 0x08 ∷ 0 ∷ 0 ∷ 0 ∷ 0x02 ∷ 0 ∷ 0 ∷ []) Disk 0
    ≡ Ok (to.Disk (Read (record { first = 0x0102030405060708; count = 2 })))
read_16 = refl

-- WRITE (10) of logical block address 01020304h, 2048 blocks, with FUA; (16) of 2 blocks without; a tape has none
write : (command_of (0x2a ∷ 0x08 ∷ 0x01 ∷ 0x02 ∷ 0x03 ∷ 0x04 ∷ 0 ∷ 0x08 ∷ 0x00 ∷ replicate 7 0) Disk 0
    ≡ Ok (to.Disk (Write (record { first = 0x01020304; count = 2048 }) true)))
    × (command_of (0x8a ∷ replicate 8 0 ++ 0x09 ∷ 0 ∷ 0 ∷ 0 ∷ 0x02 ∷ 0 ∷ 0 ∷ []) Disk 0 ≡ Ok (to.Disk (Write (record { first = 9; count = 2 }) false)))
    × (command_of (0x2a ∷ replicate 15 0) Tape 0 ≡ Err invalid_operation_code)
write = (refl, refl, refl)

-- one block too many, and protection information
write_refused : (command_of (0x2a ∷ replicate 6 0 ++ 0x08 ∷ 0x01 ∷ replicate 7 0) Disk 0 ≡ Err invalid_field)
    × (command_of (0x8a ∷ 0x20 ∷ replicate 14 0) Disk 0 ≡ Err invalid_field)
write_refused = (refl, refl)

-- VERIFY (10) of 65535 blocks without data; (10) of 1 block with data, (16) of 2049 blocks with data; BYTCHK 10b and 11b
verify : (command_of (0x2f ∷ replicate 6 0 ++ 0xff ∷ 0xff ∷ replicate 7 0) Disk 0 ≡ Ok (to.Disk (Verify (record { first = 0; count = 65535 }))))
    × (command_of (0x2f ∷ 0x02 ∷ replicate 6 0 ++ 0x01 ∷ replicate 7 0) Disk 0 ≡ Ok (to.Disk (VerifyData (record { first = 0; count = 1 }))))
    × (command_of (0x8f ∷ 0x02 ∷ replicate 10 0 ++ 0x08 ∷ 0x01 ∷ 0 ∷ 0 ∷ []) Disk 0 ≡ Err invalid_field)
    × (command_of (0x2f ∷ 0x04 ∷ replicate 14 0) Disk 0 ≡ Err invalid_field)
    × (command_of (0x2f ∷ 0x06 ∷ replicate 14 0) Disk 0 ≡ Err invalid_field)
verify = (refl, refl, refl, refl, refl)

-- SYNCHRONIZE CACHE (10) from logical block address 01020304h on; (16) of 01000000h blocks; IMMED is ignored
synchronize_cache : (command_of (0x35 ∷ 0x02 ∷ 0x01 ∷ 0x02 ∷ 0x03 ∷ 0x04 ∷ replicate 10 0) Disk 0
    ≡ Ok (to.Disk (SynchronizeCache (record { first = 0x01020304; count = 0 }))))
    × (command_of (0x91 ∷ replicate 9 0 ++ 0x01 ∷ replicate 5 0) Disk 0 ≡ Ok (to.Disk (SynchronizeCache (record { first = 0; count = 0x01000000 }))))
synchronize_cache = (refl, refl)

-- WRITE SAME (10) of 1 block, (16) of 32768; of none, of one more, and with UNMAP
write_same : (command_of (0x41 ∷ replicate 7 0 ++ 0x01 ∷ replicate 7 0) Disk 0 ≡ Ok (to.Disk (WriteSame (record { first = 0; count = 1 }))))
    × (command_of (0x93 ∷ replicate 11 0 ++ 0x80 ∷ 0 ∷ 0 ∷ 0 ∷ []) Disk 0 ≡ Ok (to.Disk (WriteSame (record { first = 0; count = 32768 }))))
    × (command_of (0x41 ∷ replicate 15 0) Disk 0 ≡ Err invalid_field)
    × (command_of (0x93 ∷ replicate 11 0 ++ 0x80 ∷ 0x01 ∷ 0 ∷ 0 ∷ []) Disk 0 ≡ Err invalid_field)
    × (command_of (0x41 ∷ 0x08 ∷ replicate 6 0 ++ 0x01 ∷ replicate 7 0) Disk 0 ≡ Err invalid_field)
write_same = (refl, refl, refl, refl, refl)

-- COMPARE AND WRITE of 128 blocks with FUA, and of none; of 129
compare_and_write : (command_of (0x89 ∷ 0x08 ∷ replicate 7 0 ++ 0x03 ∷ 0 ∷ 0 ∷ 0 ∷ 0x80 ∷ 0 ∷ 0 ∷ []) Disk 0
    ≡ Ok (to.Disk (CompareAndWrite (record { first = 3; count = 128 }) true)))
    × (command_of (0x89 ∷ replicate 15 0) Disk 0 ≡ Ok (to.Disk (CompareAndWrite (record { first = 0; count = 0 }) false)))
    × (command_of (0x89 ∷ replicate 12 0 ++ 0x81 ∷ 0 ∷ 0 ∷ []) Disk 0 ≡ Err invalid_field)
compare_and_write = (refl, refl, refl)

read_capacity : (command_of (0x25 ∷ replicate 15 0) Disk 0 ≡ Ok (to.Disk ReadCapacity10))
    × (command_of (0x9e ∷ 0x10 ∷ replicate 11 0 ++ 0x20 ∷ 0 ∷ 0 ∷ []) Disk 0 ≡ Ok (to.Disk (ReadCapacity16 32)))
read_capacity = (refl, refl)

-- another service action of SERVICE ACTION IN (16), GET LBA STATUS
other_service_action : command_of (0x9e ∷ 0x12 ∷ replicate 14 0) Disk 0 ≡ Err invalid_field
other_service_action = refl

-- REQUEST SENSE of 18 bytes; in the descriptor format (DESC)
request_sense : (command_of (0x03 ∷ 0 ∷ 0 ∷ 0 ∷ 0x12 ∷ replicate 11 0) Tape 0 ≡ Ok (to.Unit (RequestSense 18)))
    × (command_of (0x03 ∷ 0x01 ∷ 0 ∷ 0 ∷ 0x12 ∷ replicate 11 0) Disk 0 ≡ Err invalid_field)
request_sense = (refl, refl)

-- standard INQUIRY data, 36 bytes; page 83h, 0102h bytes; a page without EVPD
inquiry : (command_of (0x12 ∷ 0 ∷ 0 ∷ 0 ∷ 0x24 ∷ replicate 11 0) Disk 0 ≡ Ok (to.Unit (Inquiry None 36)))
    × (command_of (0x12 ∷ 0x01 ∷ 0x83 ∷ 0x01 ∷ 0x02 ∷ replicate 11 0) Disk 0 ≡ Ok (to.Unit (Inquiry (Some 0x83) 0x0102)))
    × (command_of (0x12 ∷ 0 ∷ 0x83 ∷ 0 ∷ 0x24 ∷ replicate 11 0) Disk 0 ≡ Err invalid_field)
inquiry = (refl, refl, refl)

-- MODE SELECT (6) of 16 bytes with PF; (10) of 0102h bytes; one to be saved (SP)
mode_select : (command_of (0x15 ∷ 0x10 ∷ 0 ∷ 0 ∷ 0x10 ∷ replicate 11 0) Disk 0 ≡ Ok (to.Unit (ModeSelect (record { header = Six; list_length = 16 }))))
    × (command_of (0x55 ∷ 0x10 ∷ replicate 5 0 ++ 0x01 ∷ 0x02 ∷ replicate 7 0) Tape 0 ≡ Ok (to.Unit (ModeSelect (record { header = Ten; list_length = 0x0102 }))))
    × (command_of (0x15 ∷ 0x11 ∷ 0 ∷ 0 ∷ 0x10 ∷ replicate 11 0) Disk 0 ≡ Err invalid_field)
mode_select = (refl, refl, refl)

-- MODE SENSE (6) of all pages, 255 bytes; (10) of the default of page 0Ah without descriptor, 0102h bytes; all subpages of all pages
mode_sense : (command_of (0x1a ∷ 0 ∷ 0x3f ∷ 0 ∷ 0xff ∷ replicate 11 0) Disk 0
    ≡ Ok (to.Unit (ModeSense (record { header = Six; block_descriptor = true; control = Current; page = 0x3f; allocation_length = 255 }))))
    × (command_of (0x5a ∷ 0x08 ∷ 0x8a ∷ 0 ∷ 0 ∷ 0 ∷ 0 ∷ 0x01 ∷ 0x02 ∷ replicate 7 0) Tape 0
    ≡ Ok (to.Unit (ModeSense (record { header = Ten; block_descriptor = false; control = Default; page = 0x0a; allocation_length = 0x0102 }))))
    × (command_of (0x1a ∷ 0 ∷ 0x7f ∷ 0xff ∷ 0xff ∷ replicate 11 0) Disk 0
    ≡ Ok (to.Unit (ModeSense (record { header = Six; block_descriptor = true; control = Changeable; page = 0x3f; allocation_length = 255 }))))
mode_sense = (refl, refl, refl)

-- another subpage; saved values, which are reported first
mode_sense_refused : (command_of (0x1a ∷ 0 ∷ 0x0a ∷ 0x01 ∷ 0xff ∷ replicate 11 0) Disk 0 ≡ Err invalid_field)
    × (command_of (0x1a ∷ 0 ∷ 0x0a ∷ 0xff ∷ 0xff ∷ replicate 11 0) Disk 0 ≡ Err invalid_field)
    × (command_of (0x1a ∷ 0 ∷ 0xca ∷ 0x01 ∷ 0xff ∷ replicate 11 0) Disk 0 ≡ Err saving_not_supported)
mode_sense_refused = (refl, refl, refl)

-- REPORT LUNS, 256 bytes: without the well known ones, those alone, all; another SELECT REPORT
report_luns : (command_of (0xa0 ∷ replicate 7 0 ++ 0x01 ∷ replicate 7 0) Disk 0
    ≡ Ok (to.Unit (ReportLuns (record { select = LogicalUnits; allocation_length = 256 }))))
    × (command_of (0xa0 ∷ 0 ∷ 0x01 ∷ replicate 5 0 ++ 0x01 ∷ replicate 7 0) Disk 0
    ≡ Ok (to.Unit (ReportLuns (record { select = WellKnown; allocation_length = 256 }))))
    × (command_of (0xa0 ∷ 0 ∷ 0x02 ∷ replicate 5 0 ++ 0x01 ∷ replicate 7 0) Tape 0
    ≡ Ok (to.Unit (ReportLuns (record { select = All; allocation_length = 256 }))))
    × (command_of (0xa0 ∷ 0 ∷ 0x03 ∷ replicate 13 0) Disk 0 ≡ Err invalid_field)
report_luns = (refl, refl, refl, refl)

-- Command descriptor blocks read for a tape, computed. The number after them is its block length, 0 if blocks have any
-- length.
use Rattle.std.specs.Prelude.{◌≡◌, ◌∷◌, true, false, Ok, Err, replicate, refl}
use Rattle.scsi_cdb.specs.Fault.{invalid_operation_code, invalid_field}
use Rattle.scsi_cdb.specs.Command.{command_of}
use Rattle.scsi_cdb.specs.declared.command.Command.TheVariants as to
use Rattle.scsi_cdb.specs.declared.operation.Kind.TheVariants.{Disk, Tape}
use Rattle.scsi_cdb.specs.declared.tape.IncorrectLength.TheVariants.{Told, ToldIfLonger, Suppressed}
use Rattle.scsi_cdb.specs.declared.tape.SpaceCode.TheVariants.{LogicalBlocks, Filemarks}
use Rattle.scsi_cdb.specs.declared.tape.TapeCommand.TheVariants.{Rewind, ReadBlockLimits, Read, ReadFixed, Write, WriteFixed, WriteFilemarks, Space, SpaceToEndOfData}
use Rattle.scsi_cdb.specs.declared.tape.TapeCommand.TheVariants.{Erase, LoadUnload, Locate, ReadPosition}

-- IMMED of REWIND, IMMED and LONG of ERASE are ignored; a disk has none of them
no_field : (command_of (0x01 ∷ replicate 15 0xff) Tape 0 ≡ Ok (to.Tape Rewind))
    × (command_of (0x19 ∷ replicate 15 0xff) Tape 0 ≡ Ok (to.Tape Erase))
    × (command_of (0x01 ∷ replicate 15 0) Disk 0 ≡ Err invalid_operation_code)
    × (command_of (0x0a ∷ replicate 15 0) Disk 0 ≡ Err invalid_operation_code)
no_field = (refl, refl, refl, refl)

-- READ BLOCK LIMITS, and with MLOI
read_block_limits : (command_of (0x05 ∷ 0xfe ∷ replicate 14 0) Tape 0 ≡ Ok (to.Tape ReadBlockLimits))
    × (command_of (0x05 ∷ 0x01 ∷ replicate 14 0) Tape 0 ≡ Err invalid_field)
read_block_limits = (refl, refl)

-- READ (6) of FFFFFFh bytes; of 010203h with SILI, of blocks of any length and of 20 bytes
read : (command_of (0x08 ∷ 0x00 ∷ 0xff ∷ 0xff ∷ 0xff ∷ replicate 11 0) Tape 20 ≡ Ok (to.Tape (Read 0xffffff Told)))
    × (command_of (0x08 ∷ 0x02 ∷ 0x01 ∷ 0x02 ∷ 0x03 ∷ replicate 11 0) Tape 0 ≡ Ok (to.Tape (Read 0x010203 Suppressed)))
    × (command_of (0x08 ∷ 0x02 ∷ 0x01 ∷ 0x02 ∷ 0x03 ∷ replicate 11 0) Tape 20 ≡ Ok (to.Tape (Read 0x010203 ToldIfLonger)))
read = (refl, refl, refl)

-- with FIXED: 2 blocks of 20 bytes, 2048 of 512, none; 2049 of 512; with SILI; and if blocks have any length, one and
-- none
read_fixed : (command_of (0x08 ∷ 0x01 ∷ 0 ∷ 0 ∷ 0x02 ∷ replicate 11 0) Tape 20
    ≡ Ok (to.Tape (ReadFixed (record { count = 2; block_length = 20 }))))
    × (command_of (0x08 ∷ 0x01 ∷ 0 ∷ 0x08 ∷ 0 ∷ replicate 11 0) Tape 512 ≡ Ok (to.Tape (ReadFixed (record { count = 2048; block_length = 512 }))))
    × (command_of (0x08 ∷ 0x01 ∷ replicate 14 0) Tape 20 ≡ Ok (to.Tape (ReadFixed (record { count = 0; block_length = 20 }))))
    × (command_of (0x08 ∷ 0x01 ∷ 0 ∷ 0x08 ∷ 0x01 ∷ replicate 11 0) Tape 512 ≡ Err invalid_field)
    × (command_of (0x08 ∷ 0x03 ∷ 0 ∷ 0 ∷ 0x02 ∷ replicate 11 0) Tape 20 ≡ Err invalid_field)
    × (command_of (0x08 ∷ 0x01 ∷ 0 ∷ 0 ∷ 0x01 ∷ replicate 11 0) Tape 0 ≡ Err invalid_field)
    × (command_of (0x08 ∷ 0x01 ∷ replicate 14 0) Tape 0 ≡ Err invalid_field)
read_fixed = (refl, refl, refl, refl, refl, refl, refl)

-- WRITE (6) of 1048576 bytes; of one more. Bit 1 of byte 1 is ignored
write : (command_of (0x0a ∷ 0x00 ∷ 0x10 ∷ 0 ∷ 0 ∷ replicate 11 0) Tape 20 ≡ Ok (to.Tape (Write 1048576)))
    × (command_of (0x0a ∷ 0x00 ∷ 0x10 ∷ 0 ∷ 0x01 ∷ replicate 11 0) Tape 20 ≡ Err invalid_field)
    × (command_of (0x0a ∷ 0x02 ∷ 0 ∷ 0 ∷ 0x05 ∷ replicate 11 0) Tape 0 ≡ Ok (to.Tape (Write 5)))
write = (refl, refl, refl)

-- with FIXED: 4 blocks of 20 bytes, one of 1048576, none, with bit 1; 2 of 1048576; and if blocks have any length, one
-- and none
write_fixed : (command_of (0x0a ∷ 0x01 ∷ 0 ∷ 0 ∷ 0x04 ∷ replicate 11 0) Tape 20
    ≡ Ok (to.Tape (WriteFixed (record { count = 4; block_length = 20 }))))
    × (command_of (0x0a ∷ 0x01 ∷ 0 ∷ 0 ∷ 0x01 ∷ replicate 11 0) Tape 1048576 ≡ Ok (to.Tape (WriteFixed (record { count = 1; block_length = 1048576 }))))
    × (command_of (0x0a ∷ 0x01 ∷ replicate 14 0) Tape 20 ≡ Ok (to.Tape (WriteFixed (record { count = 0; block_length = 20 }))))
    × (command_of (0x0a ∷ 0x03 ∷ 0 ∷ 0 ∷ 0x04 ∷ replicate 11 0) Tape 20 ≡ Ok (to.Tape (WriteFixed (record { count = 4; block_length = 20 }))))
    × (command_of (0x0a ∷ 0x01 ∷ 0 ∷ 0 ∷ 0x02 ∷ replicate 11 0) Tape 1048576 ≡ Err invalid_field)
    × (command_of (0x0a ∷ 0x01 ∷ 0 ∷ 0 ∷ 0x01 ∷ replicate 11 0) Tape 0 ≡ Err invalid_field)
    × (command_of (0x0a ∷ 0x01 ∷ replicate 14 0) Tape 0 ≡ Err invalid_field)
write_fixed = (refl, refl, refl, refl, refl, refl, refl)

-- WRITE FILEMARKS (6) of 010203h with IMMED; with WSMK
write_filemarks : (command_of (0x10 ∷ 0x01 ∷ 0x01 ∷ 0x02 ∷ 0x03 ∷ replicate 11 0) Tape 0 ≡ Ok (to.Tape (WriteFilemarks 0x010203)))
    × (command_of (0x10 ∷ 0x02 ∷ 0 ∷ 0 ∷ 0x01 ∷ replicate 11 0) Tape 0 ≡ Err invalid_field)
write_filemarks = (refl, refl)

-- SPACE (6): 8388607 logical blocks; -1 logical block; -8388608 filemarks; the end of data; sequential filemarks (2h), 4h, Fh
space : (command_of (0x11 ∷ 0x00 ∷ 0x7f ∷ 0xff ∷ 0xff ∷ replicate 11 0) Tape 0
    ≡ Ok (to.Tape (Space LogicalBlocks (record { is_backward = false; count = 8388607 }))))
    × (command_of (0x11 ∷ 0x00 ∷ 0xff ∷ 0xff ∷ 0xff ∷ replicate 11 0) Tape 0
    ≡ Ok (to.Tape (Space LogicalBlocks (record { is_backward = true; count = 1 }))))
    × (command_of (0x11 ∷ 0xf1 ∷ 0x80 ∷ 0 ∷ 0 ∷ replicate 11 0) Tape 0
    ≡ Ok (to.Tape (Space Filemarks (record { is_backward = true; count = 8388608 }))))
    × (command_of (0x11 ∷ 0x03 ∷ 0 ∷ 0 ∷ 0x01 ∷ replicate 11 0) Tape 0 ≡ Ok (to.Tape SpaceToEndOfData))
    × (command_of (0x11 ∷ 0x02 ∷ replicate 14 0) Tape 0 ≡ Err invalid_field)
    × (command_of (0x11 ∷ 0x04 ∷ replicate 14 0) Tape 0 ≡ Err invalid_field)
    × (command_of (0x11 ∷ 0x0f ∷ replicate 14 0) Tape 0 ≡ Err invalid_field)
space = (refl, refl, refl, refl, refl, refl, refl)

-- LOAD UNLOAD: a load, with RETEN too; an unload; with EOT, with HOLD
load_unload : (command_of (0x1b ∷ 0 ∷ 0 ∷ 0 ∷ 0x03 ∷ replicate 11 0) Tape 0 ≡ Ok (to.Tape (LoadUnload true)))
    × (command_of (0x1b ∷ replicate 15 0) Tape 0 ≡ Ok (to.Tape (LoadUnload false)))
    × (command_of (0x1b ∷ 0 ∷ 0 ∷ 0 ∷ 0x05 ∷ replicate 11 0) Tape 0 ≡ Err invalid_field)
    × (command_of (0x1b ∷ 0 ∷ 0 ∷ 0 ∷ 0x08 ∷ replicate 11 0) Tape 0 ≡ Err invalid_field)
load_unload = (refl, refl, refl, refl)

-- LOCATE (10) to 4294967295; with BT, with CP
locate : (command_of (0x2b ∷ 0x01 ∷ 0 ∷ 0xff ∷ 0xff ∷ 0xff ∷ 0xff ∷ replicate 9 0) Tape 0 ≡ Ok (to.Tape (Locate 4294967295)))
    × (command_of (0x2b ∷ 0x04 ∷ replicate 14 0) Tape 0 ≡ Err invalid_field)
    × (command_of (0x2b ∷ 0x02 ∷ replicate 14 0) Tape 0 ≡ Err invalid_field)
locate = (refl, refl, refl)

-- READ POSITION in the short form; in the long form (06h), in another
read_position : (command_of (0x34 ∷ replicate 15 0) Tape 0 ≡ Ok (to.Tape ReadPosition))
    × (command_of (0x34 ∷ 0x06 ∷ replicate 14 0) Tape 0 ≡ Err invalid_field)
    × (command_of (0x34 ∷ 0x01 ∷ replicate 14 0) Tape 0 ≡ Err invalid_field)
read_position = (refl, refl, refl)

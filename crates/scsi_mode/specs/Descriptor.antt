-- Block descriptors (SPC-4 "General block descriptor format", SBC-3 "Short LBA mode parameter block descriptor").
use Rattle.std.specs.Prelude.{ℕ, ◌-◌, ◌^◌, min, List, ◌++◌, Bool, ◌==◌, ◌&&◌, ◌||◌, nat_le, Option, Some, None, if◌then◌else◌, slice_index}
use Rattle.std.specs.Int.{w32, to_be_bytes}
use Rattle.byteorder.specs.Endian.{big_from}
use Rattle.media_block.specs.Blocks.{block_length as disk_block_length}
use Rattle.scsi_cdb.specs.Record.{most_record}
use Rattle.scsi_mode.specs.ModePages.{block_length_of}
use Rattle.scsi_mode.specs.declared.parameters.Parameters.{Parameters}
use Rattle.scsi_mode.specs.declared.parameters.Parameters.TheVariants.{Disk, Tape}

-- SBC-3 "Short LBA mode parameter block descriptor": the number of blocks, FFFFFFFFh if four bytes do not hold it.
-- SSC-4 "Mode parameter block descriptor": of a tape DENSITY CODE and the number of blocks, which are zero (profile)
abbrev pub block_count : Parameters → ℕ
block_count (Disk count is_protected) = min count (2 ^ 32 - 1)
block_count (Tape block_length) = 0

-- the number of blocks in four bytes; a zero byte; the block length in three
abbrev pub descriptor : Parameters → List ℕ
descriptor parameters = to_be_bytes w32 (block_count parameters) ++ to_be_bytes w32 (block_length_of parameters)

-- profile: none, all of them, or as many as there are
abbrev pub is_block_count : ℕ → ℕ → Bool
is_block_count count number = number == 0 || number == 0xffffffff || number == count

-- profile: the parameters after a descriptor of a parameter list, if it is accepted. A disk's has its block length, and
-- changes nothing. A tape's has density code 0, and sets the block length: 0, or no more bytes than of one record
abbrev pub described : Parameters → List ℕ → Option Parameters
described (Disk count is_protected) bytes =
    if big_from 5 3 bytes == disk_block_length && is_block_count count (big_from 0 4 bytes) then Some (Disk count is_protected) else None
described (Tape block_length) bytes =
    if slice_index bytes 0 == 0 && nat_le (big_from 5 3 bytes) most_record then Some (Tape (big_from 5 3 bytes)) else None

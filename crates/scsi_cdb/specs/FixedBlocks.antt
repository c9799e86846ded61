-- Blocks of one length, of a tape.
use Rattle.std.specs.Prelude.{ℕ, ◌*◌, ◌||◌, ◌==◌, Option, Some, None, nat_lt, if◌then◌else◌}
use Rattle.scsi_cdb.specs.Record.{most_record}

-- a number of blocks, and the length of each in bytes
pub record Blocks : Type 0 where
  pub count : ℕ
  pub block_length : ℕ

-- the bytes of all
abbrev pub bytes_of : Blocks → ℕ
bytes_of blocks = blocks.count * blocks.block_length

-- the blocks, if their length is not 0 (SSC-4 "READ (6) command", FIXED) and they have no more bytes than one record
-- (profile)
abbrev pub fixed_blocks_of : ℕ → ℕ → Option Blocks
fixed_blocks_of count block_length =
    if block_length == 0 || nat_lt most_record (count * block_length) then None
    else Some (record { count = count; block_length = block_length })

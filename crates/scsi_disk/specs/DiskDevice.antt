-- A disk as a logical unit.
use Rattle.std.specs.Prelude.{◌+◌, nat_lt, Bool, true, not, length, Option, Some, None}
use Rattle.media_block.specs.Blocks.{DiskState}
use Rattle.scsi_cdb.specs.Range.{Range}
use Rattle.scsi_disk.specs.declared.disk_device.DiskDevice.{DiskDevice}

-- a disk: its blocks and its store; own: whether no write of it has failed since it was opened. SWP says whether writes
-- to it are refused (SPC-4 "Control mode page")
pub record DiskUnit : Type 0 where
  pub disk : DiskState
  pub is_ready : Bool
  pub write_protect : Bool

-- the disk without its place in memory
abbrev pub disk_view : {S : Type 0} → DiskDevice S → DiskUnit
disk_view disk = record { disk = disk.disk; is_ready = disk.is_ready; write_protect = disk.write_protect }

-- whether a disk has the blocks of a range
abbrev pub has_blocks : DiskUnit → Option Range → Bool
has_blocks disk None = true
has_blocks disk (Some range) = not (nat_lt (length disk.disk.blocks) (range.first + range.count))

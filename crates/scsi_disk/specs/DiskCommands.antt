-- What commands do to disks (SBC-3 "Commands for direct access block devices").
use Rattle.std.specs.Prelude.{◌≡◌, ℕ, ◌-◌, ◌*◌, ◌^◌, min, nat_lt, List, [], ◌++◌, length, take, drop, replicate, Bool, true, false, IsTrue, Option, Some}
use Rattle.std.specs.Prelude.{None, if◌then◌else◌}
use Rattle.std.specs.Int.{w32, w64, to_be_bytes}
use Rattle.media_block.specs.Blocks.{DiskState, block_length, blocks_of, data_of, replaced, first_difference}
use Rattle.scsi_sense.specs.Sense.{plain_sense}
use Rattle.scsi_sense.specs.Done.{Outcome, good, good_with, good_taking, check_condition}
use Rattle.scsi_sense.specs.declared.sense.Sense.{Sense}
use Rattle.scsi_sense.specs.declared.condition.Condition.TheVariants.{UnrecoveredReadError, WriteError, MiscompareDuringVerifyOperation}
use Rattle.scsi_cdb.specs.Range.{Range, most_blocks}
use Rattle.scsi_cdb.specs.declared.command.DiskCommand.{DiskCommand}
use Rattle.scsi_cdb.specs.declared.command.DiskCommand.TheVariants.{Read, ReadCapacity10, ReadCapacity16, Write, Verify, VerifyData}
use Rattle.scsi_cdb.specs.declared.command.DiskCommand.TheVariants.{SynchronizeCache, WriteSame, CompareAndWrite}
use Rattle.scsi_disk.specs.DiskDevice.{DiskUnit}
use Rattle.scsi_disk.specs.DiskCame.{DiskCame, AsDefined, Dishonest, ReadFailed, WriteFailed, Shown, shown_by, disk_after}
use Rattle.scsi_disk.specs.DiskCame.{DiskTouch, no_touch, is_disk_possible}

-- 03/1100
abbrev pub unrecovered_read : Sense
unrecovered_read = plain_sense UnrecoveredReadError

-- 03/0C00
abbrev pub write_error : Sense
write_error = plain_sense WriteError

-- SBC-3 "READ CAPACITY (10) command": the last logical block address, FFFFFFFFh if it is above that, and the length of
-- a block
abbrev pub capacity_10 : ℕ → List ℕ
capacity_10 block_count = to_be_bytes w32 (min (block_count - 1) (2 ^ 32 - 1)) ++ to_be_bytes w32 block_length

-- SBC-3 "READ CAPACITY (16) command": the last logical block address and the length of a block, in 32 bytes
abbrev pub capacity_16 : ℕ → List ℕ
capacity_16 block_count = to_be_bytes w64 (block_count - 1) ++ (to_be_bytes w32 block_length ++ replicate 20 0)

-- 0E/1D00, with the offset of the first byte that differs (SBC-3 "VERIFY (10) command")
abbrev pub miscompare : ℕ → Sense
miscompare at = record (plain_sense MiscompareDuringVerifyOperation) { information = Some at }

-- the blocks that a command names
abbrev pub range_named : DiskCommand → Option Range
range_named (Read range) = Some range
range_named ReadCapacity10 = None
range_named (ReadCapacity16 allocation_length) = None
range_named (Write range force_unit_access) = Some range
range_named (Verify range) = Some range
range_named (VerifyData range) = Some range
range_named (SynchronizeCache range) = Some range
range_named (WriteSame range) = Some range
range_named (CompareAndWrite range force_unit_access) = Some range

-- SBC-3: the number of bytes of data that a command needs; of a longer payload the first are used (profile)
abbrev pub bytes_needed : DiskCommand → ℕ
bytes_needed (Read range) = 0
bytes_needed ReadCapacity10 = 0
bytes_needed (ReadCapacity16 allocation_length) = 0
bytes_needed (Write range force_unit_access) = block_length * range.count
bytes_needed (Verify range) = 0
bytes_needed (VerifyData range) = block_length * range.count
bytes_needed (SynchronizeCache range) = 0
bytes_needed (WriteSame range) = block_length
bytes_needed (CompareAndWrite range force_unit_access) = 2 * (block_length * range.count)

-- SBC-3 "Write protection" (SWP, SPC-4 "Control mode page"): the commands that write, whatever their length (profile)
abbrev pub is_write : DiskCommand → Bool
is_write (Read range) = false
is_write ReadCapacity10 = false
is_write (ReadCapacity16 allocation_length) = false
is_write (Write range force_unit_access) = true
is_write (Verify range) = false
is_write (VerifyData range) = false
is_write (SynchronizeCache range) = false
is_write (WriteSame range) = true
is_write (CompareAndWrite range force_unit_access) = true

-- ---- what is returned

abbrev pub shown_in : List (List ℕ) → List ℕ → Option Range → Shown
shown_in blocks bytes None = record { given = []; difference = None }
shown_in blocks bytes (Some range) = record {
  given = data_of blocks range.first range.count;
  difference = first_difference (data_of blocks range.first range.count) (take (block_length * range.count) bytes);
}

-- own: what an honest medium with these blocks shows of those that a command with this data names
abbrev pub shown : List (List ℕ) → List ℕ → DiskCommand → Shown
shown blocks bytes command = shown_in blocks bytes (range_named command)

-- SBC-3 "VERIFY (10) command": GOOD if this many bytes are equal, or the first difference
abbrev pub compared : ℕ → Option ℕ → Outcome
compared count None = good_taking count
compared count (Some at) = check_condition (miscompare at)

-- SBC-3, each command in "Commands for direct access block devices": the outcome on these blocks, by what was shown of
-- them
abbrev pub told_of : Shown → List (List ℕ) → DiskCommand → Outcome
told_of shown blocks (Read range) = good_with shown.given
told_of shown blocks ReadCapacity10 = good_with (capacity_10 (length blocks))
told_of shown blocks (ReadCapacity16 allocation_length) = good_with (take allocation_length (capacity_16 (length blocks)))
told_of shown blocks (Write range force_unit_access) = good_taking (block_length * range.count)
told_of shown blocks (Verify range) = good
told_of shown blocks (VerifyData range) = compared (block_length * range.count) shown.difference
told_of shown blocks (SynchronizeCache range) = good
told_of shown blocks (WriteSame range) = good_taking block_length
told_of shown blocks (CompareAndWrite range force_unit_access) = compared (2 * (block_length * range.count)) shown.difference

-- the outcome of a command with this data on a disk of these blocks
abbrev pub disk_outcome : List (List ℕ) → List ℕ → DiskCommand → Outcome
disk_outcome blocks bytes command = told_of (shown blocks bytes command) blocks command

-- own: the outcome of a command, by how it came out, if the truth was this
abbrev pub disk_told : DiskCame → Shown → List (List ℕ) → DiskCommand → Outcome
disk_told AsDefined truth blocks command = told_of truth blocks command
disk_told (Dishonest shown left) truth blocks command = told_of shown blocks command
disk_told (ReadFailed honest) truth blocks command = check_condition unrecovered_read
disk_told (WriteFailed left honest) truth blocks command = check_condition write_error

-- ---- what is changed

-- SBC-3 "WRITE (10) command": other blocks in place of these, on the medium or not yet; of no block nothing changes
abbrev pub written : Range → Bool → List (List ℕ) → DiskState → DiskState
written range synced others disk =
    if nat_lt 0 range.count then record disk { blocks = replaced range.first others disk.blocks; synced = synced } else disk

-- SBC-3 "COMPARE AND WRITE command": the second half of the data, if the first half does not differ
abbrev pub written_where : Option ℕ → Range → Bool → List ℕ → DiskState → DiskState
written_where (Some at) range synced bytes disk = disk
written_where None range synced bytes disk =
    written range synced (blocks_of range.count (take (block_length * range.count) (drop (block_length * range.count) bytes))) disk

-- SBC-3, each command in "Commands for direct access block devices": the disk after a command with this data, by what
-- was shown of it. With FUA what it wrote is on the medium
abbrev pub disk_defined : Shown → List ℕ → DiskCommand → DiskState → DiskState
disk_defined shown bytes (Read range) disk = disk
disk_defined shown bytes ReadCapacity10 disk = disk
disk_defined shown bytes (ReadCapacity16 allocation_length) disk = disk
disk_defined shown bytes (Write range force_unit_access) disk =
    written range force_unit_access (blocks_of range.count (take (block_length * range.count) bytes)) disk
disk_defined shown bytes (Verify range) disk = disk
disk_defined shown bytes (VerifyData range) disk = disk
disk_defined shown bytes (SynchronizeCache range) disk = record disk { synced = true }
disk_defined shown bytes (WriteSame range) disk = written range false (replicate range.count (take block_length bytes)) disk
disk_defined shown bytes (CompareAndWrite range force_unit_access) disk =
    written_where shown.difference range force_unit_access bytes disk

-- ---- possible outcomes

-- own: a range of one block or more
abbrev pub some_blocks : Range → Option Range
some_blocks range = if nat_lt 0 range.count then Some range else None

-- own: a READ, or a comparison, of one block or more reads; a write of one block or more writes to its range
abbrev pub touch_of : DiskCommand → DiskTouch
touch_of (Read range) = record no_touch { reads = some_blocks range }
touch_of ReadCapacity10 = no_touch
touch_of (ReadCapacity16 allocation_length) = no_touch
touch_of (Write range force_unit_access) = record no_touch { writes = some_blocks range }
touch_of (Verify range) = no_touch
touch_of (VerifyData range) = record no_touch { reads = some_blocks range }
touch_of (SynchronizeCache range) = record no_touch { syncs = true }
touch_of (WriteSame range) = record no_touch { writes = some_blocks range }
touch_of (CompareAndWrite range force_unit_access) = record no_touch { reads = some_blocks range; writes = some_blocks range }

-- own: a command with this data to a disk came out in one of its possible ways, which gives the disk and the outcome
pub record IsDiskDone (command : DiskCommand) (bytes : List ℕ) (old new : DiskUnit) (done : Outcome) : Type 0 where
  pub came : DiskCame
  pub possible : IsTrue (is_disk_possible came (touch_of command) old.disk)
  pub disk :
      let shown = shown_by came (shown old.disk.blocks bytes command) in
      new ≡ disk_after came (touch_of command) (disk_defined shown bytes command old.disk) old
  pub told : done ≡ disk_told came (shown old.disk.blocks bytes command) old.disk.blocks command

-- profile: a command returns no more data than the longest READ, in bytes
abbrev pub most_given : ℕ
most_given = most_blocks * block_length

-- Commands that write to a disk of 5 blocks of zeros, or read what stands on it, computed.
use Rattle.std.specs.Prelude.{◌≡◌, List, ℕ, [], ◌∷◌, ◌++◌, None, Bool, true, false, replicate, refl}
use Rattle.scsi_sense.specs.Sense.{sense_bytes}
use Rattle.scsi_sense.specs.Done.{good, good_taking, check_condition}
use Rattle.scsi_sense.specs.Nexus.{NexusName}
use Rattle.media_block.specs.Blocks.{blocks_of}
use Rattle.scsi_cdb.specs.Fault.{invalid_field}
use Rattle.scsi_reserve.specs.Table.{empty_table}
use Rattle.scsi_disk.specs.DiskDevice.{DiskUnit}
use Rattle.scsi_unit.specs.Device.{Disk}
use Rattle.scsi_disk.specs.DiskCame.{Dishonest, ReadFailed, WriteFailed}
use Rattle.scsi_unit.specs.CameOut.{on_disk, touches}
use Rattle.scsi_tape.specs.TapeSense.{target_failure}
use Rattle.scsi_unit.specs.Checks.{judged, out_of_range, write_protected}
use Rattle.scsi_disk.specs.DiskCommands.{miscompare, unrecovered_read, write_error}
use Rattle.scsi_unit.specs.Joined.{told}
use Rattle.scsi_unit.specs.State.{UnitState}
use Rattle.scsi_unit.specs.Unit.{performed_as, perform_at, touch_at, unit_done}
use Rattle.scsi_unit.specs.declared.joined.Joined.{Joined}

abbrev a : NexusName
a = record { initiator_name = 97 ∷ []; isid = replicate 6 0 }

abbrev zeros : List ℕ
zeros = replicate 512 0

abbrev fives : List ℕ
fives = replicate 512 0x55

abbrev the_disk : DiskUnit
the_disk = record {
  disk = record { blocks = replicate 5 zeros; synced = false; failures = 0; honest = true; steady = false };
  is_ready = true;
  write_protect = false;
}

abbrev a_was_told : Joined
a_was_told = record { nexus = a; attentions = [] }

abbrev unit_of : DiskUnit → UnitState
unit_of disk = record { lun = 0; serial = []; device = Disk disk; reservations = empty_table; joined = a_was_told ∷ [] }

-- the unit with these blocks, on the medium or not yet
abbrev with_blocks : List (List ℕ) → Bool → UnitState
with_blocks blocks synced = unit_of (record the_disk { disk = record the_disk.disk { blocks = blocks; synced = synced } })

abbrev the_unit : UnitState
the_unit = unit_of the_disk

-- a command of 10 bytes with this byte 1, of `count` blocks from this one on
abbrev command_10 : ℕ → ℕ → ℕ → ℕ → List ℕ
command_10 code byte_1 first count = code ∷ byte_1 ∷ 0 ∷ 0 ∷ 0 ∷ first ∷ 0 ∷ 0 ∷ count ∷ replicate 7 0

abbrev compare_and_write : ℕ → ℕ → List ℕ
compare_and_write first count = 0x89 ∷ replicate 8 0 ++ first ∷ 0 ∷ 0 ∷ 0 ∷ count ∷ 0 ∷ 0 ∷ []

-- WRITE (10) of block 3 with a payload of a block and more: its first bytes count, and with FUA they are on the medium
writes : (perform_at a (command_10 0x2a 0 3 1) (fives ++ 1 ∷ []) the_unit
    ≡ (with_blocks (zeros ∷ zeros ∷ zeros ∷ fives ∷ zeros ∷ []) false, good_taking 512))
    × (perform_at a (command_10 0x2a 0x08 3 1) fives the_unit ≡ (with_blocks (zeros ∷ zeros ∷ zeros ∷ fives ∷ zeros ∷ []) true, good_taking 512))
    × (perform_at a (command_10 0x2a 0x08 3 0) fives the_unit ≡ (the_unit, good))
unfolding performed_as judged told unit_done blocks_of
writes = (refl, refl, refl)

-- past the end; data shorter than two blocks; both: the range counts first
writes_refused : (perform_at a (command_10 0x2a 0 5 1) fives the_unit ≡ (the_unit, check_condition out_of_range))
    × (perform_at a (command_10 0x2a 0 3 2) fives the_unit ≡ (the_unit, check_condition invalid_field))
    × (perform_at a (command_10 0x2a 0 4 2) fives the_unit ≡ (the_unit, check_condition out_of_range))
unfolding performed_as judged told unit_done
writes_refused = (refl, refl, refl)

-- SWP: WRITE of one block and of none, WRITE SAME and COMPARE AND WRITE are refused, after a payload that is too short
-- is. SYNCHRONIZE CACHE and VERIFY are not
abbrev protected : UnitState
protected = unit_of (record the_disk { write_protect = true })

is_protected : (perform_at a (command_10 0x2a 0 3 1) fives protected ≡ (protected, check_condition write_protected))
    × (perform_at a (command_10 0x2a 0 3 0) [] protected ≡ (protected, check_condition write_protected))
    × (perform_at a (command_10 0x2a 0 3 1) [] protected ≡ (protected, check_condition invalid_field))
    × (perform_at a (command_10 0x41 0 3 1) fives protected ≡ (protected, check_condition write_protected))
    × (perform_at a (compare_and_write 3 0) [] protected ≡ (protected, check_condition write_protected))
    × ((perform_at a (command_10 0x35 0 0 0) [] protected).1 ≡ good)
    × ((perform_at a (command_10 0x2f 0 0 5) [] protected).1 ≡ good)
unfolding performed_as judged told unit_done
is_protected = (refl, refl, refl, refl, refl, refl, refl)

-- VERIFY (10) of a block that differs at byte 7, and of one that does not. VERIFY (10) of 5 blocks without data, and of
-- one past the end
verifies : (perform_at a (command_10 0x2f 0x02 3 1) (replicate 7 0 ++ 0x01 ∷ replicate 504 0) the_unit ≡ (the_unit, check_condition (miscompare 7)))
    × (perform_at a (command_10 0x2f 0x02 3 1) zeros the_unit ≡ (the_unit, good_taking 512))
    × (perform_at a (command_10 0x2f 0 0 5) [] the_unit ≡ (the_unit, good))
    × (perform_at a (command_10 0x2f 0 0 6) [] the_unit ≡ (the_unit, check_condition out_of_range))
unfolding performed_as judged told unit_done
verifies = (refl, refl, refl, refl)

verify_sense : sense_bytes (miscompare 7) ≡ 0xf0 ∷ 0 ∷ 0x0e ∷ 0 ∷ 0 ∷ 0 ∷ 7 ∷ 0x0a ∷ 0 ∷ 0 ∷ 0 ∷ 0 ∷ 0x1d ∷ 0 ∷ 0 ∷ 0 ∷ 0 ∷ 0 ∷ []
verify_sense = refl

-- COMPARE AND WRITE of block 3: the first half differs at byte 511, and nothing is written; equal; of no block
compares : (perform_at a (compare_and_write 3 1) ((replicate 511 0 ++ 0x01 ∷ []) ++ fives) the_unit ≡ (the_unit, check_condition (miscompare 511)))
    × (perform_at a (compare_and_write 3 1) (zeros ++ fives) the_unit
    ≡ (with_blocks (zeros ∷ zeros ∷ zeros ∷ fives ∷ zeros ∷ []) false, good_taking 1024))
    × (perform_at a (compare_and_write 3 0) [] the_unit ≡ (the_unit, good))
    × (perform_at a (compare_and_write 3 1) zeros the_unit ≡ (the_unit, check_condition invalid_field))
unfolding performed_as judged told unit_done blocks_of
compares = (refl, refl, refl, refl)

compare_sense : sense_bytes (miscompare 511) ≡ 0xf0 ∷ 0 ∷ 0x0e ∷ 0 ∷ 0 ∷ 0x01 ∷ 0xff ∷ 0x0a ∷ 0 ∷ 0 ∷ 0 ∷ 0 ∷ 0x1d ∷ 0 ∷ 0 ∷ 0 ∷ 0 ∷ 0 ∷ []
compare_sense = refl

-- WRITE SAME (10) of 2 blocks, and of none: 05/2400
same : (perform_at a (command_10 0x41 0 2 2) fives the_unit ≡ (with_blocks (zeros ∷ zeros ∷ fives ∷ fives ∷ zeros ∷ []) false, good_taking 512))
    × (perform_at a (command_10 0x41 0 2 0) fives the_unit ≡ (the_unit, check_condition invalid_field))
unfolding performed_as judged told unit_done
same = (refl, refl)

-- SYNCHRONIZE CACHE (10) of no block syncs everything; past the end it does not
synchronizes : (perform_at a (command_10 0x35 0 5 0) [] the_unit ≡ (with_blocks (replicate 5 zeros) true, good))
    × (perform_at a (command_10 0x35 0 5 1) [] the_unit ≡ (the_unit, check_condition out_of_range))
unfolding performed_as judged told unit_done
synchronizes = (refl, refl)

-- a write fails half way: 03/0C00, and the content of the block is not defined. The unit is not ready: 04/4400 to READ,
-- WRITE, VERIFY, SYNCHRONIZE CACHE and TEST UNIT READY
abbrev torn : List (List ℕ)
torn = zeros ∷ zeros ∷ zeros ∷ (replicate 100 0x55 ++ replicate 412 0) ∷ zeros ∷ []

abbrev failed : UnitState
failed = unit_of (record the_disk { disk = record the_disk.disk { blocks = torn; failures = 1 }; is_ready = false })

write_fails : (performed_as (on_disk (WriteFailed torn true)) a (command_10 0x2a 0 3 1) fives the_unit ≡ (failed, check_condition write_error))
    × ((perform_at a (command_10 0x28 0 0 1) [] failed).1 ≡ check_condition target_failure)
    × ((perform_at a (command_10 0x2a 0 3 1) fives failed).1 ≡ check_condition target_failure)
    × ((perform_at a (command_10 0x2f 0 0 0) [] failed).1 ≡ check_condition target_failure)
    × ((perform_at a (command_10 0x35 0 0 0) [] failed).1 ≡ check_condition target_failure)
    × ((perform_at a (replicate 16 0) [] failed).1 ≡ check_condition target_failure)
unfolding performed_as judged told unit_done
write_fails = (refl, refl, refl, refl, refl, refl)

-- the read of a COMPARE AND WRITE fails: 03/1100, and nothing is written
compare_fails : performed_as (on_disk (ReadFailed true)) a (compare_and_write 3 1) (zeros ++ fives) the_unit
    ≡ (unit_of (record the_disk { disk = record the_disk.disk { failures = 1 } }), check_condition unrecovered_read)
unfolding performed_as judged told unit_done
compare_fails = refl

-- an inconsistent store, with a COMPARE AND WRITE with FUA: it may find no difference, and write
compare_is_misled : performed_as (on_disk (Dishonest (record { given = []; difference = None }) torn)) a
    (0x89 ∷ 0x08 ∷ replicate 7 0 ++ 3 ∷ 0 ∷ 0 ∷ 0 ∷ 1 ∷ 0 ∷ 0 ∷ []) (fives ++ fives) the_unit
    ≡ (unit_of (record the_disk { disk = record the_disk.disk { blocks = torn; synced = true; honest = false } }), good_taking 1024)
unfolding performed_as judged told unit_done blocks_of
compare_is_misled = refl

-- SYNCHRONIZE CACHE touches the medium; a WRITE and a VERIFY of no block, and a VERIFY without data, do not
touched : (touches (touch_at a (command_10 0x35 0 0 0) [] the_unit) ≡ true)
    × (touches (touch_at a (command_10 0x2a 0x08 3 0) [] the_unit) ≡ false)
    × (touches (touch_at a (command_10 0x2f 0x02 3 0) [] the_unit) ≡ false)
    × (touches (touch_at a (command_10 0x2f 0 0 5) [] the_unit) ≡ false)
    × (touches (touch_at a (command_10 0x2f 0x02 3 1) zeros the_unit) ≡ true)
unfolding touch_at judged told
touched = (refl, refl, refl, refl, refl)

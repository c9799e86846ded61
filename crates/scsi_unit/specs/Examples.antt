-- Commands to a disk of 4096 blocks and to a tape, computed.
use Rattle.std.specs.Prelude.{◌≡◌, ◌^◌, List, ℕ, [], ◌∷◌, ◌++◌, true, false, replicate, refl}
use Rattle.media_tape.specs.Tape.{TapeState}
use Rattle.scsi_sense.specs.Sense.{plain_sense, sense_bytes}
use Rattle.scsi_sense.specs.Done.{good, good_with, good_taking, check_condition}
use Rattle.scsi_sense.specs.Nexus.{NexusName}
use Rattle.scsi_sense.specs.declared.condition.Condition.TheVariants.{UnitAttention, NoAdditionalSenseInformation, LogicalUnitNotSupported, ParameterListLengthError}
use Rattle.scsi_sense.specs.declared.condition.Attention.TheVariants.{PowerOnOrReset, ModeParametersChanged}
use Rattle.scsi_cdb.specs.Fault.{invalid_operation_code, invalid_field}
use Rattle.scsi_cdb.specs.declared.operation.Kind.TheVariants as kind
use Rattle.scsi_reserve.specs.Table.{empty_table}
use Rattle.scsi_inquiry.specs.StandardData.{standard_data}
use Rattle.scsi_inquiry.specs.Luns.{rising}
use Rattle.scsi_inquiry.specs.declared.peripheral.Peripheral.TheVariants as peripheral
use Rattle.scsi_mode.specs.ParameterList.{is_page, after_page, has_page, after_pages, after_descriptor, after_header, selected}
use Rattle.scsi_disk.specs.DiskDevice.{DiskUnit}
use Rattle.scsi_unit.specs.Device.{DeviceState, Disk, Tape, opened_tape}
use Rattle.scsi_disk.specs.DiskCame.{ReadFailed}
use Rattle.scsi_unit.specs.CameOut.{on_disk, touches}
use Rattle.scsi_tape.specs.TapeSense.{target_failure, end_of_data}
use Rattle.scsi_tape.specs.State.{opened_unit}
use Rattle.scsi_unit.specs.Checks.{judged, out_of_range}
use Rattle.scsi_disk.specs.DiskCommands.{capacity_10, capacity_16, unrecovered_read}
use Rattle.scsi_unit.specs.Joined.{told, raised_for_others, newly_joined}
use Rattle.scsi_unit.specs.Identity.{inquiry_outcome, luns_outcome, sense_outcome, without_unit, reported_luns}
use Rattle.scsi_unit.specs.State.{UnitState}
use Rattle.scsi_unit.specs.Lun.{lun_number}
use Rattle.scsi_unit.specs.Unit.{mode_sense_outcome, unit_done, performed_as, perform_at, touch_at}
use Rattle.scsi_unit.specs.Units.{perform}
use Rattle.scsi_unit.specs.declared.joined.Joined.{Joined}

-- the last logical block address is 0fffh; one that four bytes do not hold is FFFFFFFFh
capacity_10_data : (capacity_10 4096 ≡ 0 ∷ 0 ∷ 0x0f ∷ 0xff ∷ 0 ∷ 0 ∷ 0x02 ∷ 0 ∷ []) × (capacity_10
    (2 ^ 33) ≡ 0xff ∷ 0xff ∷ 0xff ∷ 0xff ∷ 0 ∷ 0 ∷ 0x02 ∷ 0 ∷ [])
capacity_10_data = (refl, refl)

capacity_16_data : capacity_16 4096 ≡ 0 ∷ 0 ∷ 0 ∷ 0 ∷ 0 ∷ 0 ∷ 0x0f ∷ 0xff ∷ 0 ∷ 0 ∷ 0x02 ∷ 0 ∷ replicate 20 0
capacity_16_data = refl

abbrev a : NexusName
a = record { initiator_name = 97 ∷ []; isid = replicate 6 0 }

abbrev b : NexusName
b = record { initiator_name = 98 ∷ []; isid = replicate 6 0 }

abbrev the_disk : DiskUnit
the_disk = record {
  disk = record { blocks = replicate 4096 (replicate 2 0x61); synced = false; failures = 0; honest = true; steady = false };
  is_ready = true;
  write_protect = false;
}

abbrev disk : DeviceState
disk = Disk the_disk

abbrev protected_disk : DeviceState
protected_disk = Disk (record the_disk { write_protect = true })

abbrev unit_with : DeviceState → List Joined → UnitState
unit_with device joined = record { lun = 0; serial = []; device = device; reservations = empty_table; joined = joined }

abbrev a_was_told : Joined
a_was_told = record { nexus = a; attentions = [] }

abbrev test_unit_ready : List ℕ
test_unit_ready = replicate 16 0

-- the power-on attention is reported once, and to each nexus
told_once : (perform_at a test_unit_ready [] (unit_with disk (newly_joined a ∷ newly_joined b ∷ []))
    ≡ (unit_with disk (a_was_told ∷ newly_joined b ∷ []), check_condition (plain_sense (UnitAttention PowerOnOrReset))))
    × (perform_at a test_unit_ready [] (unit_with disk (a_was_told ∷ newly_joined b ∷ [])) ≡ (unit_with disk (a_was_told ∷ newly_joined b ∷ []), good))
unfolding performed_as judged told unit_done
told_once = (refl, refl)

-- READ (10) of blocks from a logical block address on
abbrev read_10 : ℕ → ℕ → ℕ → ℕ → List ℕ
read_10 address_high address_low blocks_high blocks_low = 0x28 ∷ 0 ∷ 0 ∷ 0 ∷ address_high ∷ address_low ∷ 0 ∷ blocks_high ∷ blocks_low ∷ replicate 7 0

-- 4095 of 2 blocks is past the end. Of 2049 it is too long, which counts first. 4096 of 0 is none; 4095 of 1 is the
-- last
reads : ((perform_at a (read_10 0x0f 0xff 0 2) [] (unit_with disk (a_was_told ∷ []))).1 ≡ check_condition out_of_range)
    × ((perform_at a (read_10 0x0f 0xff 0x08 0x01) [] (unit_with disk (a_was_told ∷ []))).1 ≡ check_condition invalid_field)
    × ((perform_at a (read_10 0x10 0 0 0) [] (unit_with disk (a_was_told ∷ []))).1 ≡ good_with [])
    × ((perform_at a (read_10 0x10 0 0 1) [] (unit_with disk (a_was_told ∷ []))).1 ≡ check_condition out_of_range)
    × ((perform_at a (read_10 0x0f 0xff 0 1) [] (unit_with disk (a_was_told ∷ []))).1 ≡ good_with (replicate 2 0x61))
unfolding performed_as judged told unit_done
reads = (refl, refl, refl, refl, refl)

-- a READ of the last block reads. These do not: one of 0 blocks, one past the end, one that is refused, one that
-- reports an attention instead, and TEST UNIT READY
reads_blocks : (touches (touch_at a (read_10 0x0f 0xff 0 1) [] (unit_with disk (a_was_told ∷ []))) ≡ true)
    × (touches (touch_at a (read_10 0x10 0 0 0) [] (unit_with disk (a_was_told ∷ []))) ≡ false)
    × (touches (touch_at a (read_10 0x0f 0xff 0 2) [] (unit_with disk (a_was_told ∷ []))) ≡ false)
    × (touches (touch_at a (read_10 0x0f 0xff 0x08 0x01) [] (unit_with disk (a_was_told ∷ []))) ≡ false)
    × (touches (touch_at a (read_10 0x0f 0xff 0 1) [] (unit_with disk (newly_joined a ∷ []))) ≡ false)
    × (touches (touch_at a test_unit_ready [] (unit_with disk (a_was_told ∷ []))) ≡ false)
unfolding touch_at judged told
reads_blocks = (refl, refl, refl, refl, refl, refl)

abbrev inquiry : List ℕ
inquiry = 0x12 ∷ 0 ∷ 0 ∷ 0 ∷ 36 ∷ replicate 11 0

-- a read fails: 03/1100, and the store has one more failure
read_fails : performed_as (on_disk (ReadFailed true)) a (read_10 0 0 0 1) [] (unit_with disk (a_was_told ∷ []))
    ≡ (unit_with (Disk (record the_disk { disk = record the_disk.disk { failures = 1 } })) (a_was_told ∷ []), check_condition unrecovered_read)
unfolding performed_as judged told
read_fails = refl

-- after a failed write the unit is not ready: TEST UNIT READY and READ are 04/4400, even if a field would be refused.
-- An attention is reported first, and INQUIRY and READ CAPACITY (10) still work
abbrev failed : DeviceState
failed = Disk (record the_disk { is_ready = false })

is_not_ready : ((perform_at a test_unit_ready [] (unit_with failed (a_was_told ∷ []))).1 ≡ check_condition target_failure)
    × ((perform_at a (read_10 0x0f 0xff 0x08 0x01) [] (unit_with failed (a_was_told ∷ []))).1 ≡ check_condition target_failure)
    × ((perform_at a test_unit_ready [] (unit_with failed (newly_joined a ∷ []))).1 ≡ check_condition (plain_sense (UnitAttention PowerOnOrReset)))
    × ((perform_at a inquiry [] (unit_with failed (a_was_told ∷ []))).1 ≡ good_with (standard_data (peripheral.Unit kind.Disk)))
    × ((perform_at a (0x25 ∷ replicate 15 0) [] (unit_with failed (a_was_told ∷ []))).1 ≡ good_with (capacity_10 4096))
unfolding performed_as judged told unit_done inquiry_outcome
is_not_ready = (refl, refl, refl, refl, refl)

-- an empty tape of 100000 bytes, loaded, with the early warning mark at 90000
abbrev empty : TapeState
empty = record {
  before = [];
  after = [];
  tail = [];
  is_loaded = true;
  capacity = 100000;
  early_mark = 90000;
  synced = false;
  failures = 0;
  honest = true;
  steady = true;
  reach = 100000;
  atomic = true;
}

abbrev pub empty_tape : DeviceState
empty_tape = opened_tape empty

-- a tape is ready; it has no READ (10) of disks, which is reported before the attention
tapes : ((perform_at a test_unit_ready [] (unit_with empty_tape (a_was_told ∷ []))).1 ≡ good)
    × (perform_at a (read_10 0 0 0 1) [] (unit_with empty_tape (newly_joined a ∷ [])) ≡ (
      unit_with empty_tape (newly_joined a ∷
          []),
      check_condition invalid_operation_code,
    ))
unfolding performed_as judged told unit_done
tapes = (refl, refl)

-- READ POSITION and LOCATE (10) do nothing with a store, so on a tape whose store lied they come out as defined
positions : (touches (touch_at a (0x34 ∷ replicate 15 0) [] (unit_with (opened_tape (record empty { honest = false })) (a_was_told ∷ []))) ≡ false)
    × (touches (touch_at a (0x2b ∷ replicate 15 0) [] (unit_with (opened_tape (record empty { honest = false })) (a_was_told ∷ []))) ≡ false)
unfolding touch_at judged told
positions = (refl, refl)

-- LUN 1 if there is unit 0 alone: 05/2500
no_unit : perform (unit_with disk [] ∷ []) a (0 ∷ 1 ∷ replicate 6 0) test_unit_ready [] ≡ (
  unit_with disk [] ∷
      [],
  check_condition (plain_sense LogicalUnitNotSupported),
)
unfolding perform lun_number without_unit
no_unit = refl

-- INQUIRY of 36 bytes, to a unit and to none; the attention stays pending
inquired : (perform_at a inquiry [] (unit_with disk (newly_joined a ∷ [])) ≡ (
  unit_with disk (newly_joined a ∷
      []),
  good_with (standard_data (peripheral.Unit kind.Disk)),
))
    × (perform (unit_with disk [] ∷ []) a (0 ∷ 1 ∷ replicate 6 0) inquiry [] ≡ (unit_with disk [] ∷ [], good_with (standard_data peripheral.NoUnit)))
unfolding perform performed_as judged told unit_done inquiry_outcome lun_number without_unit
inquired = (refl, refl)

-- cut to an allocation length of 5. Page B0h of a tape, and a page without a unit, are refused
inquired_in_part : ((perform_at a (0x12 ∷ 0 ∷ 0 ∷ 0 ∷ 5 ∷ replicate 11 0) [] (unit_with disk [])).1 ≡ good_with (0 ∷ 0 ∷ 6 ∷ 2 ∷ 0x1f ∷ []))
    × ((perform_at a (0x12 ∷ 1 ∷ 0xb0 ∷ 0 ∷ 64 ∷ replicate 11 0) [] (unit_with empty_tape [])).1 ≡ check_condition invalid_field)
    × ((perform (unit_with disk [] ∷ []) a (0 ∷ 1 ∷ replicate 6 0) (0x12 ∷ 1 ∷ 0 ∷ 0 ∷ 64 ∷ replicate 11 0) []).1 ≡ check_condition invalid_field)
unfolding perform performed_as judged told unit_done inquiry_outcome lun_number without_unit
inquired_in_part = (refl, refl, refl)

-- REQUEST SENSE returns the attention and clears it; then no sense is left; without a unit it returns 05/2500
abbrev request_sense : List ℕ
request_sense = 0x03 ∷ 0 ∷ 0 ∷ 0 ∷ 18 ∷ replicate 11 0

requested : (perform_at a request_sense [] (unit_with disk (newly_joined a ∷ [])) ≡ (
  unit_with disk (a_was_told ∷
      []),
  good_with (sense_bytes (plain_sense (UnitAttention PowerOnOrReset))),
))
    × (perform_at a request_sense [] (unit_with disk (a_was_told ∷ [])) ≡ (
      unit_with disk (a_was_told ∷ []),
      good_with
          (sense_bytes (plain_sense NoAdditionalSenseInformation)),
    ))
    × (perform (unit_with disk [] ∷ []) a (0 ∷ 1 ∷ replicate 6 0) request_sense [] ≡ (
      unit_with disk [] ∷ [],
      good_with
          (sense_bytes (plain_sense LogicalUnitNotSupported)),
    ))
unfolding perform performed_as judged told unit_done sense_outcome lun_number without_unit
requested = (refl, refl, refl)

-- with allocation length 0 it still clears the attention
requested_none : perform_at a (0x03 ∷ replicate 15 0) [] (unit_with disk (newly_joined a ∷ [])) ≡ (unit_with disk (a_was_told ∷ []), good_with [])
unfolding performed_as judged told unit_done sense_outcome
requested_none = refl

-- REPORT LUNS of LUN 1 and LUN 0, in rising order, sent to either, and to a LUN without a unit
abbrev two_units : List UnitState
two_units = record (unit_with empty_tape (newly_joined a ∷ [])) { lun = 1 } ∷ unit_with disk [] ∷ []

abbrev report_luns : List ℕ
report_luns = 0xa0 ∷ replicate 8 0 ++ 255 ∷ replicate 6 0

reported : (perform two_units a (0 ∷ 1 ∷ replicate 6 0) report_luns [] ≡ (two_units, good_with (0 ∷ 0 ∷ 0 ∷ 16 ∷ replicate 12 0 ++ 0 ∷ 1 ∷ replicate 6 0)))
    × ((perform two_units a (replicate 8 0) report_luns []).1 ≡ good_with (0 ∷ 0 ∷ 0 ∷ 16 ∷ replicate 12 0 ++ 0 ∷ 1 ∷ replicate 6 0))
    × ((perform two_units a (0 ∷ 2 ∷ replicate 6 0) report_luns []).1 ≡ check_condition (plain_sense LogicalUnitNotSupported))
unfolding perform lun_number luns_outcome rising reported_luns without_unit
reported = (refl, refl, refl)

-- MODE SELECT (6) of 16 bytes that sets SWP: an attention is pending for the other nexus, not for the one that set it.
-- The same list again raises none
abbrev sets_swp : List ℕ
sets_swp = 0 ∷ 0 ∷ 0 ∷ 0 ∷ 0x0a ∷ 0x0a ∷ 0 ∷ 0 ∷ 0x08 ∷ replicate 7 0

abbrev mode_select : List ℕ
mode_select = 0x15 ∷ 0x10 ∷ 0 ∷ 0 ∷ 16 ∷ replicate 11 0

abbrev b_is_to_be_told : List Joined
b_is_to_be_told = a_was_told ∷ record { nexus = b; attentions = ModeParametersChanged ∷ [] } ∷ []

mode_selects : (perform_at a mode_select sets_swp (unit_with disk (a_was_told ∷ record { nexus = b; attentions = [] } ∷
    [])) ≡ (unit_with protected_disk b_is_to_be_told, good_taking 16))
    × (perform_at a mode_select sets_swp (unit_with protected_disk b_is_to_be_told) ≡ (unit_with protected_disk b_is_to_be_told, good_taking 16))
    × (perform_at b test_unit_ready [] (unit_with disk b_is_to_be_told) ≡ (
      unit_with disk (a_was_told ∷ record
          { nexus = b; attentions = [] } ∷ []),
      check_condition (plain_sense (UnitAttention ModeParametersChanged)),
    ))
unfolding performed_as judged told unit_done raised_for_others selected after_header after_pages has_page after_page is_page
mode_selects = (refl, refl, refl)

-- data shorter than the list: 05/1A00, and nothing changes
mode_select_refused : perform_at a mode_select (0 ∷ 0 ∷ 0 ∷ 0 ∷ []) (unit_with disk (a_was_told ∷ [])) ≡
    (unit_with disk (a_was_told ∷ []), check_condition (plain_sense ParameterListLengthError))
unfolding performed_as judged told unit_done selected
mode_select_refused = refl

-- MODE SENSE (6) of page 0Ah without descriptor, of which 5 bytes are requested; and of a page that a tape does not
-- have
mode_senses : ((perform_at a (0x1a ∷ 0x08 ∷ 0x0a ∷ 0 ∷ 5 ∷ replicate 11 0) [] (unit_with disk (a_was_told ∷
    []))).1 ≡ good_with (0x0f ∷ 0 ∷ 0x10 ∷ 0 ∷ 0x0a ∷ []))
    × ((perform_at a (0x1a ∷ 0x08 ∷ 0x08 ∷ 0 ∷ 5 ∷ replicate 11 0) [] (unit_with empty_tape (a_was_told ∷ []))).1 ≡ check_condition invalid_field)
unfolding performed_as judged told unit_done mode_sense_outcome
mode_senses = (refl, refl)

-- an empty tape with fixed blocks of this length
abbrev tape_of_blocks : ℕ → DeviceState
tape_of_blocks block_length = Tape (record (opened_unit empty) { block_length = block_length })

-- READ (6) of `count` blocks, with these flags in byte 1
abbrev read_6 : ℕ → ℕ → List ℕ
read_6 flags count = 0x08 ∷ flags ∷ 0 ∷ 0 ∷ count ∷ replicate 11 0

-- a READ with FIXED is refused if the tape has no block length, even of no blocks, and with SILI. Else it meets the end
-- of data
reads_blocks_of_a_tape : ((perform_at a (read_6 1 1) [] (unit_with empty_tape (a_was_told ∷ []))).1 ≡ check_condition invalid_field)
    × ((perform_at a (read_6 1 0) [] (unit_with empty_tape (a_was_told ∷ []))).1 ≡ check_condition invalid_field)
    × ((perform_at a (read_6 3 1) [] (unit_with (tape_of_blocks 20) (a_was_told ∷ []))).1 ≡ check_condition invalid_field)
    × ((perform_at a (read_6 1 2) [] (unit_with (tape_of_blocks 20) (a_was_told ∷ []))).1 ≡ check_condition (end_of_data 2))
unfolding performed_as judged told
reads_blocks_of_a_tape = (refl, refl, refl, refl)

-- MODE SELECT (6) of 12 bytes that sets the block length to 20: an attention is pending for the other nexus. The same
-- list again raises none
abbrev sets_block_length : List ℕ
sets_block_length = 0 ∷ 0 ∷ 0 ∷ 8 ∷ 0 ∷ 0 ∷ 0 ∷ 0 ∷ 0 ∷ 0 ∷ 0 ∷ 20 ∷ []

abbrev b_was_told : List Joined
b_was_told = a_was_told ∷ record { nexus = b; attentions = [] } ∷ []

abbrev mode_select_of_12 : List ℕ
mode_select_of_12 = 0x15 ∷ 0x10 ∷ 0 ∷ 0 ∷ 12 ∷ replicate 11 0

selects_a_block_length : (perform_at a mode_select_of_12 sets_block_length (unit_with empty_tape b_was_told)
    ≡ (unit_with (tape_of_blocks 20) b_is_to_be_told, good_taking 12))
    × (perform_at a mode_select_of_12 sets_block_length (unit_with (tape_of_blocks 20) b_was_told)
    ≡ (unit_with (tape_of_blocks 20) b_was_told, good_taking 12))
unfolding performed_as judged told unit_done raised_for_others selected after_header after_descriptor after_pages has_page after_page is_page
selects_a_block_length = (refl, refl)

-- WRITE (6) of two blocks of 20 bytes needs 40
writes_blocks_of_a_tape : ((perform_at a (0x0a ∷ 1 ∷ 0 ∷ 0 ∷ 2 ∷ replicate 11 0) (replicate 39 7) (unit_with (tape_of_blocks 20) (a_was_told ∷ []))).1
    ≡ check_condition invalid_field)
    × ((perform_at a (0x0a ∷ 1 ∷ 0 ∷ 0 ∷ 2 ∷ replicate 11 0) (replicate 40 7) (unit_with (tape_of_blocks 20) (a_was_told ∷ []))).1 ≡ good_taking 40)
unfolding performed_as judged told
writes_blocks_of_a_tape = (refl, refl)

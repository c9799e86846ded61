-- Whole histories with data, computed from the definitions alone. The expected bytes are written by hand from RFC
-- 7143 §11, SPC-4, SBC-3 and SSC-4. The examples: a WRITE with unsolicited data and two R2Ts and a READ of it; a
-- record and a filemark; an ABORT TASK of a WRITE that waits for its data; two sessions, one of which resets the
-- unit.
use Rattle.std.specs.Prelude.{◌≡◌, ℕ, ◌+◌, List, [], ◌∷◌, ◌++◌, take, drop, map, replicate, Bool, true, false, codes, refl}
use Rattle.media_block.specs.Blocks.{blocks_of}
use Rattle.iscsi_transfer.specs.WriteData.{with_data, with_asked}
use Rattle.iscsi_session.specs.Steps.{ready}
use Rattle.scsi_unit.specs.Joined.{raised_for_all}
use Rattle.scsi_unit.specs.Units.{raised_for_all_at}
use Rattle.scsi_unit.specs.Device.{DeviceState, opened}
use Rattle.scsi_unit.specs.Items.{Record, Filemark}
use Rattle.scsi_unit.specs.Medium.{KeptState, MediumState, DiskMedium, TapeMedium}
use Rattle.scsi_unit.specs.Unit.{free_unit, touch_at}
use Rattle.iscsi_world.specs.History.{Open, Bytes, History, plain}
use Rattle.iscsi_world.specs.Output.{outputs, media}
use Rattle.iscsi_world.specs.World.{Setting}
use Rattle.iscsi_world.specs.ExamplesBytes.{computed, empty_tape, login_header, login_request, login_as, login_response, logged_in, test_unit_ready, attention}

-- the definitions that an example unfolds
unfoldable data_computed : Bool
unfolding computed blocks_of with_data with_asked ready raised_for_all raised_for_all_at touch_at
data_computed = true

-- a disk of four zero blocks
abbrev small_disk : DeviceState
small_disk = opened (record { blocks = replicate 4 (replicate 512 0); synced = false; failures = 0; honest = true; steady = true })

-- the target `t1`: LUN 0 is that disk, LUN 1 a tape
abbrev disk_and_tape : Setting
disk_and_tape = record {
  directory = record { names = codes "t1" ∷ []; portal = [] };
  units = (free_unit 0 [] small_disk ∷ free_unit 1 [] empty_tape ∷ []) ∷ [];
}

-- ---- PDUs; CmdSN begins at 123 (7bh), MaxCmdSN at 154 (9ah)

-- a number of four bytes below 65536
abbrev four : (high low : ℕ) → List ℕ
four high low = 0 ∷ 0 ∷ high ∷ low ∷ []

-- a number of four bytes below 256
abbrev low : ℕ → List ℕ
low n = four 0 n

-- LUN, flat below 256 (SAM-5 "LUN")
abbrev lun_of : ℕ → List ℕ
lun_of n = 0 ∷ n ∷ replicate 6 0

-- opcode, byte 1, bytes 2 and 3, and the two low bytes of DataSegmentLength
abbrev first_bytes : (opcode flags second third high length : ℕ) → List ℕ
first_bytes opcode flags second third high length = opcode ∷ flags ∷ second ∷ third ∷ 0 ∷ 0 ∷ high ∷ length ∷ []

-- SCSI Command without data: byte 1; LUN; tag; Expected Data Transfer Length; CmdSN; ExpStatSN 1; a CDB of up to ten
-- bytes
abbrev scsi_command : (flags lun tag high length cmd_sn : ℕ) → List ℕ → List ℕ
scsi_command flags lun tag high length cmd_sn cdb =
    first_bytes 0x01 flags 0 0 0 0 ++ lun_of lun ++ low tag ++ four high length ++ low cmd_sn ++ low 1 ++ take 16 (cdb ++ replicate 16 0)

-- the header with a data segment of this length, below 256
abbrev with_data_length : ℕ → List ℕ → List ℕ
with_data_length length header = take 7 header ++ length ∷ drop 8 header

-- F, W and ATTR simple; without F, since unsolicited data follows; F, R and ATTR simple; F and ATTR simple
abbrev writes : ℕ
writes = 0xa1

abbrev writes_and_goes_on : ℕ
writes_and_goes_on = 0x21

abbrev reads : ℕ
reads = 0xc1

abbrev moves_nothing : ℕ
moves_nothing = 0x81

-- SCSI Data-Out with F and 512 bytes: tag, Target Transfer Tag, Buffer Offset
abbrev data_out : (tag : ℕ) (transfer_tag : List ℕ) (offset : ℕ) → List ℕ → List ℕ
data_out tag transfer_tag offset body =
    first_bytes 0x05 0x80 0 0 2 0 ++ lun_of 0 ++ low tag ++ transfer_tag ++ low 0 ++ low 1 ++ low 0 ++ low 0 ++ four offset 0 ++ low 0 ++ body

-- R2T of 512 bytes for tag 3 of LUN 0: Target Transfer Tag and R2TSN; StatSN 2, ExpCmdSN 125, MaxCmdSN 155; Buffer
-- Offset
abbrev r2t : (number offset : ℕ) → List ℕ
r2t number offset =
    first_bytes 0x31 0x80 0 0 0 0 ++ lun_of 0 ++ low 3 ++ low number ++ low 2 ++ low 0x7d ++ low 0x9b ++ low number ++ four offset 0 ++ four 2 0

-- SCSI Data-In with F: the length of its data; tag; no Target Transfer Tag; StatSN reserved; ExpCmdSN, MaxCmdSN;
-- DataSN; Buffer Offset; no residual
abbrev data_in : (high length tag exp_cmd_sn max_cmd_sn data_sn offset : ℕ) → List ℕ → List ℕ
data_in high length tag exp_cmd_sn max_cmd_sn data_sn offset body =
    first_bytes 0x25 0x80 0 0 high length ++ lun_of 0 ++ low tag ++ replicate 4 0xff ++ low 0 ++ low exp_cmd_sn ++ low max_cmd_sn ++ low data_sn
    ++ four offset 0 ++ low 0 ++ body

-- SCSI Response, GOOD, without residual: tag; StatSN, ExpCmdSN, MaxCmdSN; ExpDataSN
abbrev good_response : (tag stat_sn exp_cmd_sn max_cmd_sn exp_data_sn : ℕ) → List ℕ
good_response tag stat_sn exp_cmd_sn max_cmd_sn exp_data_sn =
    first_bytes 0x21 0x80 0 0 0 0 ++ replicate 8 0 ++ low tag ++ low 0 ++ low stat_sn ++ low exp_cmd_sn ++ low max_cmd_sn ++ low exp_data_sn
    ++ low 0 ++ low 0

-- TEST UNIT READY for LUN 1
abbrev test_of_tape : (tag cmd_sn exp_stat_sn : ℕ) → List ℕ
test_of_tape tag cmd_sn exp_stat_sn = take 8 (test_unit_ready tag cmd_sn exp_stat_sn) ++ lun_of 1 ++ drop 16 (test_unit_ready tag cmd_sn exp_stat_sn)

-- the media of the units
abbrev kept_media : History → List MediumState
kept_media history = map (λ (kept : KeptState). kept.medium) (media disk_and_tape history 0)

abbrev blank_tape : MediumState
blank_tape = TapeMedium [] [] true 0

-- tag 2, CmdSN 123: the answer is the unit attention of power on
abbrev first_of_disk : List ℕ
first_of_disk = test_unit_ready 2 0x7b 1

abbrev first_of_tape : List ℕ
first_of_tape = test_of_tape 2 0x7b 1

-- ---- a WRITE (10) of three blocks, and a READ (10) of them

-- The initiator `a` offers InitialR2T=No and bursts of 512 bytes: 54h bytes of text; the target's answer has 6Dh.
abbrev offers : List ℕ
offers = codes "InitialR2T=No" ++ 0 ∷ codes "MaxBurstLength=512" ++ 0 ∷ codes "FirstBurstLength=512" ++ 0 ∷ []

abbrev login_for_bursts : List ℕ
login_for_bursts = with_data_length 0x54 (login_header 0x01 0x00) ++ codes "InitiatorName=a" ++ 0 ∷ codes "TargetName=t1" ++ 0 ∷ offers

abbrev logged_in_for_bursts : List ℕ
logged_in_for_bursts = with_data_length 0x6d (take 48 logged_in)
    ++ codes "TargetPortalGroupTag=1" ++ 0 ∷ offers ++ codes "MaxRecvDataSegmentLength=262144" ++ 0 ∷ 0 ∷ 0 ∷ 0 ∷ []

-- a block filled with one byte
abbrev block_of : ℕ → List ℕ
block_of byte = replicate 512 byte

-- LBA 1, three blocks
abbrev write_10 : List ℕ
write_10 = 0x2a ∷ 0 ∷ 0 ∷ 0 ∷ 0 ∷ 1 ∷ 0 ∷ 0 ∷ 3 ∷ 0 ∷ []

abbrev read_10 : List ℕ
read_10 = 0x28 ∷ 0 ∷ 0 ∷ 0 ∷ 0 ∷ 1 ∷ 0 ∷ 0 ∷ 3 ∷ 0 ∷ []

-- the first block comes unsolicited, each of the others after an R2T; the READ returns a burst for each block
abbrev written_and_read : History
written_and_read =
    plain (Open 0) ∷ plain (Bytes 0 (login_for_bursts ++ first_of_disk)) ∷ plain (Bytes 0 (scsi_command writes_and_goes_on 0 3 6 0 0x7c write_10)) ∷
    plain (Bytes 0 (data_out 3 (replicate 4 0xff) 0 (block_of 0x11))) ∷ plain (Bytes 0 (data_out 3 (low 0) 2 (block_of 0x22))) ∷
    plain (Bytes 0 (data_out 3 (low 1) 4 (block_of 0x33))) ∷ plain (Bytes 0 (scsi_command reads 0 4 6 0 0x7d read_10)) ∷ []

each_block_comes_back : outputs disk_and_tape written_and_read ≡ (logged_in_for_bursts ++ attention ++ r2t 0 2 ++ r2t 1 4 ++ good_response 3 2 0x7d 0x9c 0
    ++ data_in 2 0 4 0x7e 0x9d 0 0 (block_of 0x11) ++ data_in 2 0 4 0x7e 0x9d 1 2 (block_of 0x22) ++ data_in 2 0 4 0x7e 0x9d 2 4 (block_of 0x33)
    ++ good_response 4 3 0x7e 0x9d 3) ∷ []
unfolding data_computed
each_block_comes_back = refl

each_block_is_kept : kept_media written_and_read ≡ DiskMedium (block_of 0 ∷ block_of 0x11 ∷ block_of 0x22 ∷ block_of 0x33 ∷ []) false ∷ blank_tape ∷ []
unfolding data_computed
each_block_is_kept = refl

-- nothing is written before the last of the data has come
nothing_is_written_yet : kept_media (take 5 written_and_read) ≡ DiskMedium (replicate 4 (block_of 0)) false ∷ blank_tape ∷ []
unfolding data_computed
nothing_is_written_yet = refl

-- The same with MaxOutstandingR2T 4: 68h bytes of text; the target's answer has 81h.
abbrev offers_of_four : List ℕ
offers_of_four = offers ++ codes "MaxOutstandingR2T=4" ++ 0 ∷ []

abbrev login_for_four : List ℕ
login_for_four = with_data_length 0x68 (login_header 0x01 0x00) ++ codes "InitiatorName=a" ++ 0 ∷ codes "TargetName=t1" ++ 0 ∷ offers_of_four

abbrev logged_in_for_four : List ℕ
logged_in_for_four = with_data_length 0x81 (take 48 logged_in)
    ++ codes "TargetPortalGroupTag=1" ++ 0 ∷ offers_of_four ++ codes "MaxRecvDataSegmentLength=262144" ++ 0 ∷ 0 ∷ 0 ∷ 0 ∷ []

abbrev written_at_once : History
written_at_once = plain (Open 0) ∷ plain (Bytes 0 (login_for_four ++ first_of_disk)) ∷ drop 2 written_and_read

-- both R2Ts are sent as the unsolicited data ends, and the same is written
both_are_asked_at_once : outputs disk_and_tape (take 4 written_at_once) ≡ (logged_in_for_four ++ attention ++ r2t 0 2 ++ r2t 1 4) ∷ []
unfolding data_computed
both_are_asked_at_once = refl

each_block_is_kept_so : kept_media written_at_once ≡ DiskMedium (block_of 0 ∷ block_of 0x11 ∷ block_of 0x22 ∷ block_of 0x33 ∷ []) false ∷ blank_tape ∷ []
unfolding data_computed
each_block_is_kept_so = refl

-- ---- a record of three bytes and a filemark, written to a tape and read back

abbrev record_and_filemark : History
record_and_filemark =
    plain (Open 0) ∷ plain (Bytes 0 (login_request ++ first_of_tape)) ∷
    -- WRITE (6), with the record as immediate data
    plain (Bytes 0 (with_data_length 3 (scsi_command writes 1 3 0 3 0x7c (0x0a ∷ 0 ∷ 0 ∷ 0 ∷ 3 ∷ 0 ∷ [])) ++ codes "abc" ++ 0 ∷ [])) ∷
    -- WRITE FILEMARKS (6) of one, REWIND
    plain (Bytes 0 (scsi_command moves_nothing 1 4 0 0 0x7d (0x10 ∷ 0 ∷ 0 ∷ 0 ∷ 1 ∷ 0 ∷ []))) ∷
    plain (Bytes 0 (scsi_command moves_nothing 1 5 0 0 0x7e (0x01 ∷ []))) ∷
    -- READ (6) twice
    plain (Bytes 0 (scsi_command reads 1 6 0 3 0x7f (0x08 ∷ 0 ∷ 0 ∷ 0 ∷ 3 ∷ 0 ∷ []))) ∷
    plain (Bytes 0 (scsi_command reads 1 7 0 3 0x80 (0x08 ∷ 0 ∷ 0 ∷ 0 ∷ 3 ∷ 0 ∷ []))) ∷ []

-- SCSI Response with U and CHECK CONDITION: tag 7; StatSN 6, ExpCmdSN 129, MaxCmdSN 160; residual 3. Then SenseLength
-- 18 and the sense data: fixed format with valid information, FILEMARK, 3 bytes not read, additional sense length 10,
-- 00h/01h: filemark detected.
abbrev at_the_filemark : List ℕ
at_the_filemark =
    first_bytes 0x21 0x82 0 0x02 0 0x14 ++ replicate 8 0 ++ low 7 ++ low 0 ++ low 6 ++ low 0x81 ++ low 0xa0 ++ low 0 ++ low 0 ++ low 3
    ++ 0 ∷ 0x12 ∷ 0xf0 ∷ 0 ∷ 0x80 ∷ 0 ∷ 0 ∷ 0 ∷ 3 ∷ 0x0a ∷ 0 ∷ 0 ∷ 0 ∷ 0 ∷ 0 ∷ 0x01 ∷ 0 ∷ 0 ∷ 0 ∷ 0 ∷ []

the_record_comes_back : outputs disk_and_tape record_and_filemark ≡ (logged_in ++ attention ++ good_response 3 2 0x7d 0x9c 0
    ++ good_response 4 3 0x7e 0x9d 0 ++ good_response 5 4 0x7f 0x9e 0 ++ (data_in 0 3 6 0x80 0x9f 0 0 (codes "abc" ++ 0 ∷ []))
    ++ good_response 6 5 0x80 0x9f 1 ++ at_the_filemark) ∷ []
unfolding data_computed
the_record_comes_back = refl

both_are_kept : kept_media record_and_filemark
    ≡ DiskMedium (replicate 4 (block_of 0)) false ∷ TapeMedium (Record (codes "abc") ∷ Filemark ∷ []) [] true 0 ∷ []
unfolding data_computed
both_are_kept = refl

-- ---- an ABORT TASK of a WRITE that waits for its data

-- Task Management Function Request for immediate delivery: function; LUN 0; tag; Referenced Task Tag; CmdSN;
-- ExpStatSN; RefCmdSN
abbrev function_request : (function tag task cmd_sn ref_cmd_sn : ℕ) → List ℕ
function_request function tag task cmd_sn ref_cmd_sn =
    first_bytes 0x42 (0x80 + function) 0 0 0 0 ++ lun_of 0 ++ low tag ++ low task ++ low cmd_sn ++ low 1 ++ low ref_cmd_sn ++ replicate 12 0

-- Task Management Function Response, Function complete: tag; StatSN, ExpCmdSN, MaxCmdSN
abbrev function_complete : (tag stat_sn exp_cmd_sn max_cmd_sn : ℕ) → List ℕ
function_complete tag stat_sn exp_cmd_sn max_cmd_sn =
    first_bytes 0x22 0x80 0 0 0 0 ++ replicate 8 0 ++ low tag ++ low 0 ++ low stat_sn ++ low exp_cmd_sn ++ low max_cmd_sn ++ replicate 12 0

-- a WRITE (10) of LBA 1, one block
abbrev write_one : List ℕ
write_one = 0x2a ∷ 0 ∷ 0 ∷ 0 ∷ 0 ∷ 1 ∷ 0 ∷ 0 ∷ 1 ∷ 0 ∷ []

-- an R2T asks for its data, it is aborted, and then its data comes
abbrev aborted : History
aborted =
    plain (Open 0) ∷ plain (Bytes 0 (login_request ++ first_of_disk)) ∷ plain (Bytes 0 (scsi_command writes 0 3 2 0 0x7c write_one)) ∷
    plain (Bytes 0 (function_request 1 4 3 0x7d 0x7c)) ∷ plain (Bytes 0 (data_out 3 (low 0) 0 (block_of 0x11))) ∷
    plain (Bytes 0 (test_unit_ready 5 0x7d 1)) ∷ []

it_is_answered_nothing : outputs disk_and_tape aborted
    ≡ (logged_in ++ attention ++ r2t 0 0 ++ function_complete 4 2 0x7d 0x9c ++ good_response 5 3 0x7e 0x9d 0) ∷ []
unfolding data_computed
it_is_answered_nothing = refl

it_writes_nothing : kept_media aborted ≡ DiskMedium (replicate 4 (block_of 0)) false ∷ blank_tape ∷ []
unfolding data_computed
it_writes_nothing = refl

-- ---- two sessions, one of which resets the unit

-- SCSI Response with CHECK CONDITION: tag; StatSN, ExpCmdSN, MaxCmdSN; sense data 06h, 29h/03h: bus device reset
-- function occurred
abbrev reset_occurred : (tag stat_sn exp_cmd_sn max_cmd_sn : ℕ) → List ℕ
reset_occurred tag stat_sn exp_cmd_sn max_cmd_sn =
    take 16 attention ++ low tag ++ low 0 ++ low stat_sn ++ low exp_cmd_sn ++ low max_cmd_sn ++ take 27 (drop 36 attention) ++ 0x03 ∷ replicate 4 0

-- The WRITE of `b` waits for its data; `a` resets LUN 0. The data that `b` sends then is dropped, and each initiator
-- gets the unit attention of the reset once.
abbrev reset_by_another : History
reset_by_another =
    plain (Open 0) ∷ plain (Open 1) ∷ plain (Bytes 0 (login_request ++ first_of_disk)) ∷ plain (Bytes 1 (login_as 0x62 0x01 0x00 ++ first_of_disk)) ∷
    plain (Bytes 1 (scsi_command writes 0 3 2 0 0x7c write_one)) ∷ plain (Bytes 0 (function_request 5 4 0 0x7c 0)) ∷
    plain (Bytes 1 (data_out 3 (low 0) 0 (block_of 0x11))) ∷ plain (Bytes 1 (test_unit_ready 5 0x7d 1 ++ test_unit_ready 6 0x7e 1)) ∷
    plain (Bytes 0 (test_unit_ready 5 0x7c 1)) ∷ []

each_is_told_once : outputs disk_and_tape reset_by_another ≡ (logged_in ++ attention ++ function_complete 4 2 0x7c 0x9b ++ reset_occurred 5 3 0x7d 0x9c)
    ∷ (login_response 0x01 0x02 ++ attention ++ r2t 0 0 ++ reset_occurred 5 2 0x7e 0x9d ++ good_response 6 3 0x7f 0x9e 0) ∷ []
unfolding data_computed
each_is_told_once = refl

the_data_is_dropped : kept_media reset_by_another ≡ DiskMedium (replicate 4 (block_of 0)) false ∷ blank_tape ∷ []
unfolding data_computed
the_data_is_dropped = refl

-- Commands to tapes, computed.
use Rattle.std.specs.Prelude.{◌≡◌, ℕ, List, [], ◌∷◌, ◌++◌, true, false, replicate, refl}
use Rattle.media_tape.specs.Items.{Item, Record, Filemark}
use Rattle.media_tape.specs.Tape.{TapeState}
use Rattle.scsi_sense.specs.Done.{good, good_with, good_taking, check_condition}
use Rattle.scsi_cdb.specs.FixedBlocks.{Blocks}
use Rattle.scsi_cdb.specs.declared.tape.IncorrectLength.TheVariants.{Told, ToldIfLonger, Suppressed}
use Rattle.scsi_cdb.specs.declared.tape.SpaceCode.TheVariants.{LogicalBlocks}
use Rattle.scsi_cdb.specs.declared.tape.TapeCommand.TheVariants.{Read, ReadFixed, Write, WriteFixed, WriteFilemarks, Space, Locate, ReadPosition}
use Rattle.scsi_tape.specs.TapeSense.{filemark, end_of_data, beginning, early_warning, overflow, incorrect_length}
use Rattle.scsi_tape.specs.State.{opened_unit}
use Rattle.scsi_tape.specs.Commands.{given_with, tape_outcome, tape_left, position_data}
use Rattle.scsi_tape.specs.CameOut.{TapeCame, AsDefined, Dishonest, standing_of, ReadFailed, WriteFailed, tape_touch, is_tape_possible, tape_after, tape_told}

-- a tape of 100 bytes with the early warning mark at 40, and these records and filemarks
abbrev tape_of : List Item → List Item → TapeState
tape_of before after = record {
  before = before;
  after = after;
  tail = [];
  is_loaded = true;
  capacity = 100;
  early_mark = 40;
  synced = true;
  failures = 0;
  honest = true;
  steady = true;
  reach = 100;
  atomic = true;
}

abbrev five : List ℕ
five = 1 ∷ 2 ∷ 3 ∷ 4 ∷ 5 ∷ []

-- READ of 8 bytes, of 5, of 4, and of 4 with SILI, if a record of 5 is next
read_record : (tape_outcome (Read 8 Told) [] (tape_of [] (Record five ∷ [])) ≡ given_with (incorrect_length 3) five)
    × (tape_outcome (Read 5 Told) [] (tape_of [] (Record five ∷ [])) ≡ good_with five)
    × (tape_outcome (Read 4 Told) [] (tape_of [] (Record five ∷ [])) ≡ given_with (incorrect_length 0xffffffff) (1 ∷ 2 ∷ 3 ∷ 4 ∷ []))
    × (tape_outcome (Read 4 Suppressed) [] (tape_of [] (Record five ∷ [])) ≡ good_with (1 ∷ 2 ∷ 3 ∷ 4 ∷ []))
read_record = (refl, refl, refl, refl)

-- READ of 8 bytes if a filemark is next, and at the end of data; READ of none
read_other : (tape_outcome (Read 8 Told) [] (tape_of [] (Filemark ∷ [])) ≡ check_condition (filemark 8))
    × (tape_outcome (Read 8 Told) [] (tape_of [] []) ≡ check_condition (end_of_data 8))
    × (tape_outcome (Read 0 Told) [] (tape_of [] (Filemark ∷ [])) ≡ good)
read_other = (refl, refl, refl)

abbrev twenty : List ℕ
twenty = replicate 20 7

-- WRITE of 20 bytes: to 28 bytes of items; to 56, past the early warning mark; and to 112, past the end
write : (tape_outcome (Write 20) twenty (tape_of [] []) ≡ good_taking 20)
    × (tape_outcome (Write 20) twenty (tape_of (Record twenty ∷ []) []) ≡ record (check_condition early_warning) { moved = 20 })
    × (tape_outcome (Write 20) twenty (tape_of (replicate 3 (Record twenty)) []) ≡ check_condition (overflow 20))
write = (refl, refl, refl)

-- READ of 8 bytes with SILI and fixed blocks: a record of 20 bytes is reported, one of 5 is not
read_longer : (tape_outcome (Read 8 ToldIfLonger) [] (tape_of [] (Record twenty ∷ []))
    ≡ given_with (incorrect_length 0xfffffff4) (replicate 8 7))
    × (tape_outcome (Read 8 ToldIfLonger) [] (tape_of [] (Record five ∷ [])) ≡ good_with five)
read_longer = (refl, refl)

-- `count` blocks of 20 bytes
abbrev blocks_of_20 : ℕ → Blocks
blocks_of_20 count = record { count = count; block_length = 20 }

-- READ of two blocks: three are next; one is, then a filemark; one is, then the end; a record of 5 bytes is. READ of
-- none
read_blocks : (tape_outcome (ReadFixed (blocks_of_20 2)) [] (tape_of [] (replicate 3 (Record twenty))) ≡ good_with (replicate 40 7))
    × (tape_outcome (ReadFixed (blocks_of_20 2)) [] (tape_of [] (Record twenty ∷ Filemark ∷ [])) ≡ given_with (filemark 1) twenty)
    × (tape_outcome (ReadFixed (blocks_of_20 2)) [] (tape_of [] (Record twenty ∷ [])) ≡ given_with (end_of_data 1) twenty)
    × (tape_outcome (ReadFixed (blocks_of_20 2)) [] (tape_of [] (Record five ∷ [])) ≡ check_condition (incorrect_length 2))
    × (tape_outcome (ReadFixed (blocks_of_20 0)) [] (tape_of [] []) ≡ good)
read_blocks = (refl, refl, refl, refl, refl)

-- and the position is after the record of 5 bytes
passes_another : tape_left (ReadFixed (blocks_of_20 2)) [] (tape_of [] (Record five ∷ Record twenty ∷ []))
    ≡ tape_of (Record five ∷ []) (Record twenty ∷ [])
passes_another = refl

-- WRITE of one block; of two, past the early warning mark; of four, of which three fit; and of one if none fits
write_blocks : (tape_outcome (WriteFixed (blocks_of_20 1)) twenty (tape_of [] []) ≡ good_taking 20)
    × (tape_outcome (WriteFixed (blocks_of_20 2)) (replicate 40 7) (tape_of [] []) ≡ record (check_condition early_warning) { moved = 40 })
    × (tape_outcome (WriteFixed (blocks_of_20 4)) (replicate 80 7) (tape_of [] []) ≡ record (check_condition (overflow 1)) { moved = 60 })
    × (tape_outcome (WriteFixed (blocks_of_20 1)) twenty (tape_of (replicate 3 (Record twenty)) []) ≡ check_condition (overflow 1))
write_blocks = (refl, refl, refl, refl)

-- the three that fit are written, and if none fits nothing changes
writes_those_that_fit : (tape_left (WriteFixed (blocks_of_20 4)) (replicate 80 7) (tape_of [] (Filemark ∷ []))
    ≡ record (tape_of (replicate 3 (Record twenty)) []) { synced = false })
    × (tape_left (WriteFixed (blocks_of_20 1)) twenty (tape_of (replicate 3 (Record twenty)) (Filemark ∷ []))
    ≡ tape_of (replicate 3 (Record twenty)) (Filemark ∷ []))
writes_those_that_fit = (refl, refl)

-- SPACE over -5 logical blocks after three
space_back : tape_outcome (Space LogicalBlocks (record { is_backward = true; count = 5 })) [] (tape_of (replicate 3 (Record twenty)) [])
    ≡ check_condition (beginning 2)
space_back = refl

-- READ POSITION after three records, past the early warning mark, and at the beginning
position : (position_data 3 true ≡ 0x40 ∷ 0 ∷ 0 ∷ 0 ∷ 0 ∷ 0 ∷ 0 ∷ 3 ∷ 0 ∷ 0 ∷ 0 ∷ 3 ∷ replicate 8 0)
    × (position_data 0 false ≡ 0x80 ∷ replicate 19 0)
position = (refl, refl)

-- a READ of a record reads the store. One that ends at a filemark, at the end or at a record of another length does not,
-- nor do SPACE, LOCATE and READ POSITION. A WRITE that is refused does not write to it
touched : ((tape_touch (Read 8 Told) (tape_of [] (Record five ∷ []))).reads ≡ true)
    × ((tape_touch (Read 8 Told) (tape_of [] (Filemark ∷ []))).reads ≡ false)
    × ((tape_touch (Read 8 Told) (tape_of [] [])).reads ≡ false)
    × ((tape_touch (ReadFixed (blocks_of_20 2)) (tape_of [] (Record twenty ∷ []))).reads ≡ true)
    × ((tape_touch (ReadFixed (blocks_of_20 2)) (tape_of [] (Record five ∷ []))).reads ≡ false)
    × ((tape_touch (Space LogicalBlocks (record { is_backward = false; count = 1 })) (tape_of [] (Record five ∷ []))).reads ≡ false)
    × ((tape_touch (Locate 0) (tape_of [] (Record five ∷ []))).reads ≡ false)
    × ((tape_touch ReadPosition (tape_of [] [])).reads ≡ false)
    × ((tape_touch (Write 20) (tape_of [] [])).writes ≡ true)
    × ((tape_touch (Write 20) (tape_of (replicate 3 (Record twenty)) [])).writes ≡ false)
    × ((tape_touch (WriteFixed (blocks_of_20 4)) (tape_of [] [])).writes ≡ true)
    × ((tape_touch (WriteFixed (blocks_of_20 4)) (tape_of (replicate 3 (Record twenty)) [])).writes ≡ false)
touched = (refl, refl, refl, refl, refl, refl, refl, refl, refl, refl, refl, refl)

-- a store that may fail, with a record after the position
abbrev liar : TapeState
liar = record (tape_of [] (Record five ∷ [])) { steady = false }

-- if a read fails, a READ of the record reports it; no SPACE, LOCATE or READ POSITION can come out so
unreadable : (is_tape_possible (ReadFailed true) (Read 8 Told) [] liar ≡ true)
    × (is_tape_possible (ReadFailed true) (Space LogicalBlocks (record { is_backward = false; count = 1 })) [] liar ≡ false)
    × (is_tape_possible (ReadFailed true) (Locate 1) [] liar ≡ false)
    × (is_tape_possible (ReadFailed true) ReadPosition [] liar ≡ false)
unreadable = (refl, refl, refl, refl)

-- an inconsistent store: READ returns other bytes of the record, as many. It cannot return fewer, nor report another
-- position, nor refuse a WRITE, and WRITE FILEMARKS is not misled if the store was honest before
abbrev other_bytes : TapeCame
other_bytes = Dishonest (9 ∷ 8 ∷ 7 ∷ 6 ∷ 5 ∷ []) (record { before = Record five ∷ []; after = []; tail = [] })

is_misled : (is_tape_possible other_bytes (Read 8 Told) [] liar ≡ true)
    × (tape_told other_bytes (Read 8 Told) [] liar ≡ given_with (incorrect_length 3) (9 ∷ 8 ∷ 7 ∷ 6 ∷ 5 ∷ []))
    × (tape_after other_bytes (Read 8 Told) [] (opened_unit liar)
    ≡ opened_unit (record liar { before = Record five ∷ []; after = []; honest = false }))
    × (is_tape_possible (Dishonest [] (record { before = Record five ∷ []; after = []; tail = [] })) (Read 8 Told) [] liar ≡ false)
    × (is_tape_possible (Dishonest [] (record { before = Filemark ∷ []; after = []; tail = [] })) (WriteFilemarks 1) [] liar ≡ false)
is_misled = (refl, refl, refl, refl, refl)

-- its store has lied, and the position is after three records of 20 bytes, which are all that fit
abbrev lied : TapeState
lied = record (tape_of (replicate 3 (Record twenty)) []) { steady = false; honest = false }

-- READ POSITION, LOCATE and a WRITE that is refused come out as defined. WRITE FILEMARKS of one leaves items of the same
-- sizes
as_defined_still : (is_tape_possible (Dishonest (position_data 2 false) (standing_of lied)) ReadPosition [] lied ≡ false)
    × (tape_told AsDefined ReadPosition [] lied ≡ good_with (position_data 3 true))
    × (is_tape_possible (Dishonest [] (standing_of lied)) (Locate 1) [] lied ≡ false)
    × (is_tape_possible (Dishonest [] (standing_of lied)) (Write 20) twenty lied ≡ false)
    × (tape_told AsDefined (Write 20) twenty lied ≡ check_condition (overflow 20))
    × (is_tape_possible (Dishonest [] (record { before = replicate 3 (Record (replicate 20 9)) ++ Filemark ∷ []; after = []; tail = [] }))
    (WriteFilemarks 1) [] lied ≡ true)
    × (is_tape_possible (Dishonest [] (record { before = Filemark ∷ Filemark ∷ []; after = []; tail = [] })) (WriteFilemarks 1) [] lied ≡ false)
as_defined_still = (refl, refl, refl, refl, refl, refl, refl)

-- a failed sync loses no item, and a failed write loses what stood after the position
failed : (tape_after (WriteFailed (record { before = []; after = []; tail = 1 ∷ [] })) (WriteFilemarks 0) [] (opened_unit liar)
    ≡ record { tape = record liar { synced = false; failures = 1 }; is_working = false; block_length = 0 })
    × (tape_after (WriteFailed (record { before = []; after = []; tail = 1 ∷ [] })) (Write 20) twenty (opened_unit liar)
    ≡ record { tape = record liar { after = []; tail = 1 ∷ []; synced = false; failures = 1 }; is_working = false; block_length = 0 })
failed = (refl, refl)

-- READ (6) and WRITE (6) with FIXED, computed: which blocks of 20 bytes are written to and read from a tape of 100
-- bytes. The outcomes are computed with the commands.
use Rattle.std.specs.Prelude.{◌≡◌, ℕ, List, [], ◌∷◌, ◌++◌, true, false, replicate, refl}
use Rattle.media_tape.specs.Items.{Item, Record, Filemark}
use Rattle.media_tape.specs.Tape.{TapeState}
use Rattle.media_tape.specs.Fixed.{fixed, tape_read_fixed, tape_written_fixed}
use Rattle.tape_index.specs.declared.outcome.FixedEnd.TheVariants as end

abbrev tape_of : List Item → List Item → TapeState
tape_of before after = record {
  before = before;
  after = after;
  tail = [];
  is_loaded = true;
  capacity = 100;
  early_mark = 40;
  synced = true;
  failures = 0;
  honest = true;
  steady = true;
  reach = 100;
  atomic = true;
}

abbrev block : ℕ → List ℕ
block byte = replicate 20 byte

abbrev three : List Item
three = Record (block 1) ∷ Record (block 2) ∷ Record (block 3) ∷ []

-- of four blocks, each 28 bytes of items, three fit
four_written : tape_written_fixed 4 20 (block 1 ++ block 2 ++ block 3 ++ block 4) (tape_of [] []) ≡ record (tape_of three []) { synced = false }
four_written = refl

-- two of three blocks are read
read : fixed 2 20 three ≡ record { given = 2; bytes = block 1 ++ block 2; ended = end.Whole }
read = refl

-- a filemark is passed and not returned
mark_passed : (fixed 3 20 (Record (block 1) ∷ Filemark ∷ three) ≡ record { given = 1; bytes = block 1; ended = end.Filemark })
    × (tape_read_fixed 3 20 (tape_of [] (Record (block 1) ∷ Filemark ∷ three)) ≡ tape_of (Record (block 1) ∷ Filemark ∷ []) three)
mark_passed = (refl, refl)

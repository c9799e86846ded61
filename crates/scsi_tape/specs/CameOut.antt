-- How a command to a tape came out, depending on its store.
use Rattle.std.specs.Prelude.{◌≡◌, ℕ, ◌+◌, ◌*◌, ◌⊎◌, ◌==◌, nat_lt, nat_le, List, [], ◌∷◌, length, map, Bool, true, false, ◌||◌, ◌&&◌, not, IsTrue, if◌then◌else◌}
use Rattle.media_store.specs.Failures.{risen, NoneFailed}
use Rattle.media_tape.specs.Items.{Item, size, size_of}
use Rattle.media_tape.specs.Tape.{TapeState, first_data}
use Rattle.media_tape.specs.Fixed.{fixed_told}
use Rattle.scsi_sense.specs.Done.{Outcome, good, check_condition}
use Rattle.scsi_cdb.specs.Record.{most_record}
use Rattle.scsi_cdb.specs.declared.tape.TapeCommand.{TapeCommand}
use Rattle.scsi_cdb.specs.declared.tape.TapeCommand.TheVariants.{Rewind, ReadBlockLimits, Read, ReadFixed, Write, WriteFixed, WriteFilemarks, Space}
use Rattle.scsi_cdb.specs.declared.tape.TapeCommand.TheVariants.{SpaceToEndOfData, Erase, LoadUnload, Locate, ReadPosition}
use Rattle.scsi_tape.specs.TapeSense.{early_warning, unrecovered_read, write_error}
use Rattle.scsi_tape.specs.State.{TapeUnitState}
use Rattle.scsi_tape.specs.Commands.{tape_outcome, tape_left}

-- own: what stands on a tape, and after its items
pub record Standing : Type 0 where
  pub before : List Item
  pub after : List Item
  pub tail : List ℕ

abbrev pub standing_of : TapeState → Standing
standing_of tape = record { before = tape.before; after = tape.after; tail = tape.tail }

pub data TapeCame : Type 0 where
  -- as its definition says
  AsDefined : TapeCame
  -- its store is not honest after it: these bytes are returned, and this stands on the tape after the command
  Dishonest : (given : List ℕ) (left : Standing) → TapeCame
  -- a read failed; the store may be honest after it or not
  ReadFailed : (honest : Bool) → TapeCame
  -- a write, a cut or a sync failed, and this stands on the tape after it
  WriteFailed : (left : Standing) → TapeCame

-- own: what a command does with its medium. It may read items from the store, change them, or wait until everything is
-- on the medium
pub record TapeTouch : Type 0 where
  pub reads : Bool
  pub writes : Bool
  pub syncs : Bool

abbrev pub no_touch : TapeTouch
no_touch = record { reads = false; writes = false; syncs = false }

-- own: whether this many more bytes of items are not refused on this tape
abbrev pub can_fit : ℕ → TapeState → Bool
can_fit more tape = nat_le (size_of tape.before + more) tape.capacity

-- own: a READ and a WRITE of nothing do not touch the medium. A READ that ends at its first item, which is no record, or
-- of another length than its blocks, does not read it, and SPACE, LOCATE and READ POSITION never do. A command that is
-- refused (0D/0002) does not write
abbrev pub tape_touch : TapeCommand → TapeState → TapeTouch
tape_touch Rewind tape = no_touch
tape_touch ReadBlockLimits tape = no_touch
tape_touch (Read asked incorrect) tape =
    if nat_lt 0 asked then record no_touch { reads = nat_lt 0 (length (first_data tape.after)) } else no_touch
tape_touch (ReadFixed blocks) tape =
    if nat_lt 0 blocks.count then record no_touch { reads = nat_lt 0 (fixed_told blocks.count blocks.block_length tape).given }
    else no_touch
tape_touch (Write count) tape =
    if nat_lt 0 count then record no_touch { writes = can_fit (count + 8) tape } else no_touch
tape_touch (WriteFixed blocks) tape =
    if nat_lt 0 blocks.count then record no_touch { writes = can_fit (blocks.block_length + 8) tape } else no_touch
tape_touch (WriteFilemarks count) tape =
    if count == 0 then record no_touch { syncs = true }
    else record no_touch { writes = can_fit (8 * count) tape; syncs = can_fit (8 * count) tape }
tape_touch (Space code distance) tape = no_touch
tape_touch SpaceToEndOfData tape = no_touch
tape_touch Erase tape = record no_touch { writes = true }
tape_touch (LoadUnload load) tape = no_touch
tape_touch (Locate number) tape = no_touch
tape_touch ReadPosition tape = no_touch

-- own: whether no call on it fails as long as it is honest: its store is steady, and has room for the capacity
abbrev pub is_steady : TapeState → Bool
is_steady tape = tape.steady && nat_le tape.capacity tape.reach

abbrev pub can_fail : TapeState → Bool
can_fail tape = not (tape.honest && is_steady tape)

-- own: whether these are the same sizes
abbrev pub are_same : List ℕ → List ℕ → Bool
are_same [] [] = true
are_same [] (other ∷ others) = false
are_same (one ∷ ones) [] = false
are_same (one ∷ ones) (other ∷ others) = (one == other) && are_same ones others

-- own: whether these are items of the same sizes
abbrev pub are_sized : List Item → List Item → Bool
are_sized some others = are_same (map size some) (map size others)

-- own: whether a command with this data can come out so. If no call on the tape can fail, it comes out as defined. A
-- store shows itself inconsistent only to a command that reads. One that writes leaves other bytes only if the store
-- was inconsistent before. The data returned is as long as defined, and the items have the sizes that they have by
-- definition. No outcome has more data than the longest READ returns
abbrev pub is_tape_possible : TapeCame → TapeCommand → List ℕ → TapeState → Bool
is_tape_possible AsDefined command bytes tape = true
is_tape_possible (Dishonest given left) command bytes tape =
    let touch = tape_touch command tape in
    let defined = tape_left command bytes tape in
    can_fail tape && ((touch.reads || (touch.writes && not tape.honest))
    && ((length given == length (tape_outcome command bytes tape).given) && (nat_le (length given) most_record
    && (are_sized left.before defined.before && are_sized left.after defined.after))))
is_tape_possible (ReadFailed honest) command bytes tape =
    can_fail tape && ((tape_touch command tape).reads && (not honest || tape.honest))
is_tape_possible (WriteFailed left) command bytes tape =
    let touch = tape_touch command tape in can_fail tape && ((touch.writes || touch.syncs) && are_sized left.before tape.before)

-- own: the tape after a command whose store is not honest: as this, which its definition leaves. If the command writes,
-- the bytes of the items may be others
abbrev pub misled : Bool → Standing → TapeState → TapeState
misled writes left defined =
    record defined {
      before = if writes then left.before else defined.before;
      after = if writes then left.after else defined.after;
      tail = if writes then left.tail else defined.tail;
      honest = false;
    }

-- profile: after a write, a cut or a sync failed, the items before the position remain. Those after it are lost if
-- there was something to write. On a store that is not honest the bytes of those that remain may be others
abbrev torn : TapeTouch → Standing → TapeState → TapeState
torn touch left tape =
    if touch.writes then record tape {
      before = if tape.honest then tape.before else left.before;
      after = [];
      tail = left.tail;
    } else tape

-- own: the unit after a command with this data, by how it came out
abbrev pub tape_after : TapeCame → TapeCommand → List ℕ → TapeUnitState → TapeUnitState
tape_after AsDefined command bytes unit = record unit { tape = tape_left command bytes unit.tape }
tape_after (Dishonest given left) command bytes unit =
    record unit { tape = misled (tape_touch command unit.tape).writes left (tape_left command bytes unit.tape) }
tape_after (ReadFailed honest) command bytes unit =
    record unit { tape = record unit.tape { failures = risen unit.tape.failures; honest = honest } }
tape_after (WriteFailed left) command bytes unit =
    record unit {
      tape = record (torn (tape_touch command unit.tape) left unit.tape) { synced = false; failures = risen unit.tape.failures };
      is_working = false;
    }

-- own: what the command returns; if its store was inconsistent, these bytes in place of its data
abbrev pub tape_told : TapeCame → TapeCommand → List ℕ → TapeState → Outcome
tape_told AsDefined command bytes tape = tape_outcome command bytes tape
tape_told (Dishonest given left) command bytes tape = record (tape_outcome command bytes tape) { given = given }
tape_told (ReadFailed honest) command bytes tape = check_condition unrecovered_read
tape_told (WriteFailed left) command bytes tape = check_condition write_error

-- own: a command with this data to a tape came out in one of its possible ways, which gives the unit and the outcome
pub record IsTapeDone (command : TapeCommand) (bytes : List ℕ) (old new : TapeUnitState) (done : Outcome) : Type 0 where
  pub came : TapeCame
  pub possible : IsTrue (is_tape_possible came command bytes old.tape)
  pub unit : new ≡ tape_after came command bytes old
  pub told : done ≡ tape_told came command bytes old.tape

-- own: the store is still honest, and none of its calls failed
pub record IsTrustedTape (old new : TapeState) : Type 0 where
  pub honest : IsTrue new.honest
  pub none : NoneFailed old.failures new.failures

-- a command with this data to a tape whose store does not fail
abbrev pub tape_done : TapeCommand → List ℕ → TapeUnitState → TapeUnitState × Outcome
tape_done command bytes unit = (record unit { tape = tape_left command bytes unit.tape }, tape_outcome command bytes unit.tape)

-- own: filemarks were written, past the early warning mark or not, or there were none to write
abbrev pub WereMarked : Outcome → Type 0
WereMarked done = (done ≡ good) ⊎ (done ≡ check_condition early_warning)

-- own: after that everything is on the medium
abbrev pub AreSynced : TapeCommand → TapeState → Outcome → Type 0
AreSynced command new done = (count : ℕ) → command ≡ WriteFilemarks count → WereMarked done → new.synced ≡ true

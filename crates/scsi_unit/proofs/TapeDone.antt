-- How a command to a unit came out, by how it came out on its tape.
use Rattle.std.proofs.Common.{◌≡◌, ℕ, ◌==◌, List, [], ◌∷◌, take, Bool, true, false, refl, sym, ap, ◌∙◌}
use Rattle.std.specs.Prelude.{if◌then◌else◌}
use Rattle.media_store.specs.Failures.{risen}
use Rattle.media_tape.specs.Items.{Item}
use Rattle.media_tape.specs.Tape.{TapeState, write_told, wrote_if_told, synced_if_told, size_told}
use Rattle.media_tape.specs.declared.outcome.Written.{Written}
use Rattle.media_tape.specs.declared.outcome.Written.TheVariants as written
use Rattle.scsi_sense.specs.Done.{Outcome}
use Rattle.scsi_sense.specs.Nexus.{NexusName}
use Rattle.scsi_sense.specs.declared.condition.Attention.TheVariants.{NotReadyToReadyChange}
use Rattle.scsi_cdb.specs.declared.command.Command.TheVariants as to
use Rattle.scsi_cdb.specs.declared.tape.TapeCommand.{TapeCommand}
use Rattle.scsi_cdb.specs.declared.tape.TapeCommand.TheVariants.{Rewind, ReadBlockLimits, Read, ReadFixed, Write, WriteFixed, WriteFilemarks, Space}
use Rattle.scsi_cdb.specs.declared.tape.TapeCommand.TheVariants.{SpaceToEndOfData, Erase, LoadUnload, Locate, ReadPosition}
use Rattle.scsi_tape.specs.State.{TapeUnitState}
use Rattle.scsi_tape.specs.Commands.{tape_left}
use Rattle.scsi_tape.specs.CameOut.{TapeCame, tape_touch, tape_after, IsTapeDone, is_steady}
use Rattle.scsi_tape.specs.CameOut as tape
use Rattle.scsi_unit.specs.Device.{Tape, StoreState, store_of}
use Rattle.scsi_unit.specs.CameOut.{CameOut, on_tape, tape_came, tape_store, store_after}
use Rattle.scsi_unit.proofs.CameOut.{tape_back}
use Rattle.scsi_unit.specs.TapeCommands.{loads, tape_performed}
use Rattle.scsi_unit.specs.Joined.{raised_for_others}
use Rattle.scsi_unit.specs.State.{UnitState}
use Rattle.scsi_unit.specs.Unit.{touch_by, IsPerformed}
use Rattle.scsi_unit.specs.declared.joined.Joined.{Joined}

-- ---- the store is no other where a command does as defined

abbrev facts : TapeState → StoreState
facts tape = record { failures = tape.failures; honest = tape.honest; steady = is_steady tape }

facts_by : (is : Bool) (a b : TapeState) (same : StoreState) → facts a ≡ same → facts b ≡ same → facts (if is then a else b) ≡ same
facts_by true a b same one other = one
facts_by false a b same one other = other

wrote_facts : (told : Written) (others : List Item) (tape : TapeState) → facts (wrote_if_told told others tape) ≡ facts tape
wrote_facts written.Refused others tape = refl
wrote_facts written.Early others tape = refl
wrote_facts written.Whole others tape = refl

synced_facts : (told : Written) (tape : TapeState) → facts (synced_if_told told tape) ≡ facts tape
synced_facts written.Refused tape = refl
synced_facts written.Early tape = refl
synced_facts written.Whole tape = refl

write_facts : (count : ℕ) (bytes rest : List ℕ) (tape : TapeState) → take count bytes ≡ rest
    → facts (tape_left (Write count) bytes tape) ≡ facts tape
write_facts count bytes [] tape is = rw is refl
write_facts count bytes (byte ∷ rest) tape is = rw is (wrote_facts (write_told (byte ∷ rest) tape) _ tape)

left_facts : (command : TapeCommand) (bytes : List ℕ) (tape : TapeState) → facts (tape_left command bytes tape) ≡ facts tape
left_facts Rewind bytes tape = refl
left_facts ReadBlockLimits bytes tape = refl
left_facts (ReadFixed blocks) bytes tape = refl
left_facts (WriteFixed blocks) bytes tape = facts_by _ tape _ (facts tape) refl refl
left_facts (Read asked incorrect) bytes tape = facts_by (asked == 0) tape _ (facts tape) refl refl
left_facts (Write count) bytes tape = write_facts count bytes (take count bytes) tape refl
left_facts (WriteFilemarks count) bytes tape =
    facts_by (count == 0) _ _ (facts tape) refl (synced_facts (size_told _ tape) _ ∙ wrote_facts (size_told _ tape) _ tape)
left_facts (Space code distance) bytes tape = refl
left_facts SpaceToEndOfData bytes tape = refl
left_facts Erase bytes tape = refl
left_facts (LoadUnload load) bytes tape = refl
left_facts (Locate number) bytes tape = refl
left_facts ReadPosition bytes tape = refl

torn_facts : (writes : Bool) (left tape : TapeState) (on : TapeUnitState) → facts left ≡ facts tape
    → store_of (Tape (record on { tape = record (if writes then left else tape) { failures = risen tape.failures }; is_working = false }))
    ≡ record (facts tape) { failures = risen tape.failures }
torn_facts true left tape on same = ap (λ (store : StoreState). record store { failures = risen tape.failures }) same
torn_facts false left tape on same = refl

store_same : (came : TapeCame) (command : TapeCommand) (bytes : List ℕ) (on : TapeUnitState)
    → store_of (Tape (tape_after came command bytes on)) ≡ tape_store came (store_of (Tape on))
store_same tape.AsDefined command bytes on = left_facts command bytes on.tape
store_same (tape.Dishonest given left) command bytes on =
    ap (λ (store : StoreState). record store { honest = false }) (left_facts command bytes on.tape)
store_same (tape.ReadFailed honest) command bytes on = refl
store_same (tape.WriteFailed left) command bytes on = torn_facts (tape_touch command on.tape).writes _ on.tape on refl

-- ---- the unit

-- who is to be told where a command loads a tape
abbrev pub told_by : NexusName → UnitState → TapeCommand → Bool → List Joined
told_by nexus unit command is_loaded =
    if loads command is_loaded then raised_for_others nexus NotReadyToReadyChange unit.joined else unit.joined

pub tape_did : (command : TapeCommand) (bytes : List ℕ) (nexus : NexusName) (unit : UnitState) (on after : TapeUnitState) (done : Outcome)
    → unit.device ≡ Tape on → IsTapeDone command bytes on after done
    → IsPerformed (touch_by bytes unit.device (to.Tape command)) (λ (came : CameOut). tape_performed (tape_came came) nexus bytes unit unit.device command)
    unit (record unit { device = Tape after; joined = told_by nexus unit command on.tape.is_loaded }) done
tape_did command bytes nexus unit on after done is did =
    let came = on_tape did.came in
    record {
      came = came;
      possible = rw (is, tape_back did.came, did.possible) refl;
      store =
          ap (λ (now : TapeUnitState). store_of (Tape now)) did.unit ∙ store_same did.came command bytes on
          ∙ ap (λ (c : TapeCame). tape_store c (store_of (Tape on))) (sym (tape_back did.came))
          ∙ ap (store_after came) (sym is);
      answer = rw (is, tape_back did.came, ← did.unit, ← did.told) refl;
    }

pub tape_did_to : (command : TapeCommand) (bytes : List ℕ) (nexus : NexusName) (unit : UnitState) (on after : TapeUnitState) (new : UnitState)
    (done : Outcome) → unit.device ≡ Tape on → IsTapeDone command bytes on after done
    → new ≡ record unit { device = Tape after; joined = told_by nexus unit command on.tape.is_loaded }
    → IsPerformed (touch_by bytes unit.device (to.Tape command)) (λ (came : CameOut). tape_performed (tape_came came) nexus bytes unit unit.device command)
    unit new done
tape_did_to command bytes nexus unit on after new done is did same = rw same (tape_did command bytes nexus unit on after done is did)

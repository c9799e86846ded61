-- How a command to a unit came out, by how it came out on its disk, or where it does nothing with its medium.
use Rattle.std.proofs.Common.{◌≡◌, ℕ, List, Bool, true, false, Option, Some, None, nat_lt, if◌then◌else◌, refl, sym, ap, ◌∙◌}
use Rattle.media_block.specs.Blocks.{DiskState}
use Rattle.scsi_sense.specs.Done.{Outcome, check_condition}
use Rattle.scsi_sense.specs.Nexus.{NexusName}
use Rattle.scsi_cdb.specs.Fault.{invalid_operation_code}
use Rattle.scsi_cdb.specs.Range.{Range}
use Rattle.scsi_cdb.specs.declared.command.Command.TheVariants as to
use Rattle.scsi_cdb.specs.declared.command.DiskCommand.{DiskCommand}
use Rattle.scsi_cdb.specs.declared.command.DiskCommand.TheVariants.{Read, ReadCapacity10, ReadCapacity16, Write, Verify, VerifyData}
use Rattle.scsi_cdb.specs.declared.command.DiskCommand.TheVariants.{SynchronizeCache, WriteSame, CompareAndWrite}
use Rattle.scsi_cdb.specs.declared.tape.TapeCommand.{TapeCommand}
use Rattle.scsi_tape.specs.State.{TapeUnitState}
use Rattle.scsi_disk.specs.DiskDevice.{DiskUnit}
use Rattle.scsi_unit.specs.Device.{Disk, Tape, StoreState, store_of}
use Rattle.scsi_disk.specs.DiskCame.{DiskCame, Shown, shown_by, disk_after}
use Rattle.scsi_disk.specs.DiskCame as disk_way
use Rattle.scsi_unit.specs.CameOut.{CameOut, AsDefined, on_disk, tape_came, Touch, disk_store, store_after}
use Rattle.scsi_disk.specs.DiskCommands.{IsDiskDone, touch_of, disk_defined, written_where, shown}
use Rattle.scsi_unit.specs.TapeCommands.{tape_performed}
use Rattle.scsi_unit.specs.State.{UnitState}
use Rattle.scsi_unit.specs.Unit.{touch_by, carried_out, IsPerformed}
use Rattle.scsi_unit.proofs.CameOut.{way_defined, none_after, disk_back}

-- it did as defined, whatever it could have done
pub performed_defined : (touch : Touch) (should : CameOut → UnitState × Outcome) (old new : UnitState) (done : Outcome)
    → store_of new.device ≡ store_of old.device → (new, done) ≡ should AsDefined → IsPerformed touch should old new done
performed_defined touch should old new done same answer = record {
  came = AsDefined;
  possible = way_defined touch;
  store = same ∙ sym (none_after old.device);
  answer = answer;
}

-- ---- on a disk: the store is no other where a command does as defined

abbrev facts : DiskState → StoreState
facts disk = record { failures = disk.failures; honest = disk.honest; steady = disk.steady }

facts_by : (is : Bool) (a b : DiskState) → facts a ≡ facts b → facts (if is then a else b) ≡ facts b
facts_by true a b same = same
facts_by false a b same = refl

where_facts : (difference : Option ℕ) (range : Range) (synced : Bool) (bytes : List ℕ) (disk : DiskState)
    → facts (written_where difference range synced bytes disk) ≡ facts disk
where_facts (Some at) range synced bytes disk = refl
where_facts None range synced bytes disk = facts_by (nat_lt 0 range.count) _ disk refl

defined_facts : (seen : Shown) (bytes : List ℕ) (command : DiskCommand) (disk : DiskState) → facts (disk_defined seen bytes command disk) ≡ facts disk
defined_facts seen bytes (Read range) disk = refl
defined_facts seen bytes ReadCapacity10 disk = refl
defined_facts seen bytes (ReadCapacity16 allocation_length) disk = refl
defined_facts seen bytes (Write range force_unit_access) disk = facts_by (nat_lt 0 range.count) _ disk refl
defined_facts seen bytes (Verify range) disk = refl
defined_facts seen bytes (VerifyData range) disk = refl
defined_facts seen bytes (SynchronizeCache range) disk = refl
defined_facts seen bytes (WriteSame range) disk = facts_by (nat_lt 0 range.count) _ disk refl
defined_facts seen bytes (CompareAndWrite range force_unit_access) disk = where_facts seen.difference range force_unit_access bytes disk

store_same : (came : DiskCame) (seen : Shown) (bytes : List ℕ) (command : DiskCommand) (disk : DiskUnit)
    → store_of (Disk (disk_after came (touch_of command) (disk_defined (shown_by came seen) bytes command disk.disk) disk))
    ≡ disk_store came (store_of (Disk disk))
store_same disk_way.AsDefined seen bytes command disk = defined_facts seen bytes command disk.disk
store_same (disk_way.Dishonest shown left) seen bytes command disk =
    ap (λ (store : StoreState). record store { honest = false }) (defined_facts shown bytes command disk.disk)
store_same (disk_way.ReadFailed honest) seen bytes command disk = refl
store_same (disk_way.WriteFailed left honest) seen bytes command disk = refl

module _ (command : DiskCommand) (bytes : List ℕ) (nexus : NexusName) (unit : UnitState) where
  pub disk_did : (disk after : DiskUnit) (new : UnitState) (done : Outcome) → unit.device ≡ Disk disk → new ≡ record unit { device = Disk after }
      → IsDiskDone command bytes disk after done
      → IsPerformed (touch_by bytes unit.device (to.Disk command)) (λ (came : CameOut). carried_out came nexus bytes unit (to.Disk command)) unit new done
  disk_did disk after new done is same did =
      rw same (record {
        came = on_disk did.came;
        possible = rw (is, disk_back did.came, did.possible) refl;
        store =
            ap (λ (now : DiskUnit). store_of (Disk now)) did.disk
            ∙ store_same did.came (shown disk.disk.blocks bytes command) bytes command disk
            ∙ ap (λ (c : DiskCame). disk_store c (store_of (Disk disk))) (sym (disk_back did.came))
            ∙ ap (store_after (on_disk did.came)) (sym is);
        answer = rw (is, disk_back did.came, ← did.disk, ← did.told) refl;
      })

  -- a tape does it not
  pub no_disk : (tape : TapeUnitState) (done : Outcome) → unit.device ≡ Tape tape → done ≡ check_condition invalid_operation_code
      → IsPerformed (touch_by bytes unit.device (to.Disk command)) (λ (came : CameOut). carried_out came nexus bytes unit (to.Disk command)) unit unit done
  no_disk tape done is told = performed_defined _ _ unit unit done refl (rw (is, told) refl)

-- and a disk no command to a tape
pub no_tape : (command : TapeCommand) (bytes : List ℕ) (nexus : NexusName) (unit : UnitState) (disk : DiskUnit) (done : Outcome)
    → unit.device ≡ Disk disk → done ≡ check_condition invalid_operation_code
    → IsPerformed (touch_by bytes unit.device (to.Tape command)) (λ (came : CameOut). tape_performed (tape_came came) nexus bytes unit unit.device command)
    unit unit done
no_tape command bytes nexus unit disk done is told = performed_defined _ _ unit unit done refl (rw (is, told) refl)

-- Why a unit is not opened, by what is left of its file.
use Rattle.std.proofs.Common.{◌≡◌, ◌≢◌, ℕ, List, refl, sym, subst, ◌∙◌, false, IsTrue, Some}
use Rattle.std.specs.Prelude.{Contains, Result, Ok, Err, IfErr, IsErrAnd}
use Rattle.std.specs.IoError.{error_kind}
use Rattle.std.specs.declared.io.ErrorKind.TheVariants as kinds
use Rattle.std.specs.declared.io.Error.{Error}
use Rattle.media_store.specs.Calls.{FileCall}
use Rattle.media_store.specs.Opening.{IsRefused}
use Rattle.media_store.specs.States.{FileState}
use Rattle.media_block.specs.Blocks.{is_disk}
use Rattle.media_block.specs.Fault as blocks
use Rattle.media_block.specs.declared.fault.DiskOpenFault.{DiskOpenFault}
use Rattle.media_block.specs.declared.fault.DiskOpenFault.TheVariants as disks
use Rattle.media_tape.specs.Fault as items
use Rattle.media_tape.specs.Fault.{Explains}
use Rattle.media_tape.specs.declared.fault.TapeOpenFault.{TapeOpenFault}
use Rattle.media_tape.specs.declared.fault.TapeOpenFault.TheVariants as tapes
use Rattle.target_config.specs.Configuration.{MediumEntry, FileDisk, FileTape, UnitEntry, natural, file_of}
use Rattle.target_units.specs.Opened.{Held}
use Rattle.target_units.specs.Refusal.{Refusal, ByCall, ByStore, content_in, failures_in, honest_in}
use Rattle.target_units.specs.Unopened.{IsErrorOf, disk_cause, tape_fault_of, IsDevice, IsFaultAt, IsFaultIn}
use Rattle.target_units.specs.declared.cause.DeviceCause.{DeviceCause}
use Rattle.target_units.specs.declared.store.MediumStore.{MediumStore}
use Rattle.target_units.specs.declared.fault.UnitFault.{UnitFault}
use Rattle.target_units.specs.declared.fault.UnitFault.TheVariants as whys

module _ (held : Held) where
  -- a file that is not opened or not locked
  pub unopened_file : (medium : MediumEntry) (path : List ℕ) (lun : ℕ) (error : Error) (calls : List FileCall) (why : UnitFault) → file_of medium ≡ Some path
      → IsRefused path calls → (error_kind error ≡ kinds.OutOfMemory → why ≡ whys.Memory)
      → (error_kind error ≢ kinds.OutOfMemory → (cause : DeviceCause) × (why ≡ whys.Device lun cause) × IsErrorOf error cause)
      → why ≢ whys.Memory → IsDevice held medium lun (ByCall error calls) why
  unopened_file medium path lun error calls why named refused memory other failed =
      let told = other (λ is. failed (memory is)) in
      subst (IsDevice held medium lun (ByCall error calls)) (sym told.1) (refl, (path, named, (refused, told.2)))

  -- a store that is no disk
  pub unfit_disk : (path : List ℕ) (lun : ℕ) (store : MediumStore FileState) (fault : DiskOpenFault) → content_in store ≡ held path
      → failures_in store ≡ blocks.failures_after fault 0
      → (fault ≡ disks.Length → IsTrue (honest_in store) → is_disk (held path) ≡ false)
      → IsDevice held (FileDisk path) lun (ByStore store) (whys.Device lun (disk_cause fault))
  unfit_disk path lun store disks.Length content failures breaks = (refl, (path, refl, (content, (failures, breaks refl))))
  unfit_disk path lun store disks.Device content failures breaks = (refl, (path, refl, (content, failures)))

  -- a store that is no tape of its capacity
  pub unfit_tape : (path : List ℕ) (capacity early lun : ℕ) (store : MediumStore FileState) (fault : TapeOpenFault) → content_in store ≡ held path
      → failures_in store ≡ items.failures_after fault 0
      → (IsTrue (honest_in store) → Explains (held path) capacity fault) → tape_fault_of lun fault ≢ whys.Memory
      → IsDevice held (FileTape path capacity early) lun (ByStore store) (tape_fault_of lun fault)
  unfit_tape path capacity early lun store (tapes.TornEnd at) content failures breaks failed = (refl, (path, refl, (content, (failures, breaks))))
  unfit_tape path capacity early lun store tapes.Device content failures breaks failed = (refl, (path, refl, (content, failures)))
  unfit_tape path capacity early lun store tapes.TooLong content failures breaks failed = (refl, (path, refl, (content, (failures, breaks))))
  unfit_tape path capacity early lun store tapes.OutOfMemory content failures breaks failed = absurd (failed refl)

  -- a unit, by its medium
  pub fault_at : (unit : UnitEntry) (lun : ℕ) (refused : Refusal) (why : UnitFault) → lun ≡ natural unit.lun
      → (why ≢ whys.Memory → IsDevice held unit.medium lun refused why) → IsFaultAt held unit refused why
  fault_at unit lun refused (whys.Device told cause) number is =
      let device = is (λ x. cc) in
      (sym (device.0 ∙ number), device.1)
  fault_at unit lun refused whys.Memory number is = tt

  -- a call that fails with this fault
  pub fails_at : {T : Type 0} (unit : UnitEntry) (refused : Refusal) (result : Result T UnitFault) (why : UnitFault)
      → IsErrAnd result (λ seen. seen ≡ why) → IsFaultAt held unit refused why → IfErr result (IsFaultAt held unit refused)
  fails_at unit refused (Ok value) why told is = absurd told
  fails_at unit refused (Err seen) why told is = subst (IsFaultAt held unit refused) (sym told) is

  -- one of the units of a target
  pub fault_in : (units : List UnitEntry) (unit : UnitEntry) (refused : Refusal) (why : UnitFault) → Contains units unit
      → IsFaultAt held unit refused why → IsFaultIn held units refused why
  fault_in units unit refused (whys.Device told cause) one is = (unit, one, is)
  fault_in units unit refused whys.Memory one is = tt

  pub fails_in : {T : Type 0} (units : List UnitEntry) (unit : UnitEntry) (refused : Refusal) (result : Result T UnitFault) (why : UnitFault)
      → IsErrAnd result (λ seen. seen ≡ why) → Contains units unit → IsFaultAt held unit refused why → IfErr result (IsFaultIn held units refused)
  fails_in units unit refused (Ok value) why told one is = absurd told
  fails_in units unit refused (Err seen) why told one is = subst (IsFaultIn held units refused) (sym told) (fault_in units unit refused why one is)

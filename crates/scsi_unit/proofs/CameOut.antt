-- What follows from how a command came out.
use Rattle.std.proofs.Common.{◌≡◌, ℕ, Bool, true, false, List, IsTrue, Result, Ok, Err, refl, sym, ap, subst, ◌∙◌, arith, not, ◌&&◌, ◌||◌, ◌⊎◌, inl, inr}
use Rattle.std.specs.Prelude.{is_some}
use Rattle.std.proofs.lemmas.Bool.{false≢true, and_parts, or_left, or_right}
use Rattle.media_block.specs.Blocks.{DiskState}
use Rattle.media_tape.specs.Tape.{TapeState}
use Rattle.scsi_sense.specs.Done.{Outcome}
use Rattle.scsi_sense.specs.Nexus.{NexusName}
use Rattle.scsi_cdb.specs.declared.command.Command.{Command}
use Rattle.scsi_cdb.specs.declared.command.Command.TheVariants as to
use Rattle.scsi_cdb.specs.declared.tape.TapeCommand.{TapeCommand}
use Rattle.scsi_tape.specs.CameOut.{TapeCame, tape_touch, is_tape_possible}
use Rattle.scsi_tape.specs.CameOut as tape_way
use Rattle.scsi_tape.proofs.Trusted.{sure_came}
use Rattle.scsi_unit.specs.Device.{DeviceState, Disk, Tape, StoreState, store_of, IsSteady}
use Rattle.scsi_disk.specs.DiskCame.{DiskCame, DiskTouch, is_disk_possible, can_fail}
use Rattle.scsi_disk.specs.DiskCame as disk_way
use Rattle.scsi_unit.specs.CameOut.{CameOut, AsDefined, on_disk, on_tape, disk_came, tape_came, Touch, Nothing, OnDisk, OnTape, touches, way}
use Rattle.scsi_unit.specs.CameOut.{disk_store, tape_store, store_after}
use Rattle.scsi_unit.specs.State.{UnitState}
use Rattle.scsi_unit.specs.Checks.{judged}
use Rattle.scsi_unit.specs.Unit.{IsPerformed, touch_by, touch_where, touch_at}
use Rattle.scsi_unit.specs.Units.{IsSoundStore, IsSureStore, IsTrustedStore}
use Rattle.scsi_unit.specs.declared.refusal.Refusal.{Refusal}

-- ---- a disk's way, and a tape's, among all

pub disk_back : (came : DiskCame) → disk_came (on_disk came) ≡ came
disk_back disk_way.AsDefined = refl
disk_back (disk_way.Dishonest shown left) = refl
disk_back (disk_way.ReadFailed honest) = refl
disk_back (disk_way.WriteFailed left honest) = refl

pub tape_back : (came : TapeCame) → tape_came (on_tape came) ≡ came
tape_back tape_way.AsDefined = refl
tape_back (tape_way.Dishonest given left) = refl
tape_back (tape_way.ReadFailed honest) = refl
tape_back (tape_way.WriteFailed left) = refl

-- one that counts is as defined, or passes the test
disk_counts : (came : CameOut) (touch : DiskTouch) (disk : DiskState) → way came (OnDisk touch disk) ≡ came
    → (came ≡ AsDefined) ⊎ ((is_disk_possible (disk_came came) touch disk ≡ true) × (on_disk (disk_came came) ≡ came))
disk_counts came touch disk counts = by_test (is_disk_possible (disk_came came) touch disk) refl
  where
    by_test : (possible : Bool) → is_disk_possible (disk_came came) touch disk ≡ possible
        → (came ≡ AsDefined) ⊎ ((is_disk_possible (disk_came came) touch disk ≡ true) × (on_disk (disk_came came) ≡ came))
    by_test true is = inr (is, rw is at counts)
    by_test false is = inl (sym (rw is at counts))

tape_counts : (came : CameOut) (command : TapeCommand) (bytes : List ℕ) (tape : TapeState) → way came (OnTape command bytes tape) ≡ came
    → (came ≡ AsDefined) ⊎ ((is_tape_possible (tape_came came) command bytes tape ≡ true) × (on_tape (tape_came came) ≡ came))
tape_counts came command bytes tape counts = by_test (is_tape_possible (tape_came came) command bytes tape) refl
  where
    by_test : (possible : Bool) → is_tape_possible (tape_came came) command bytes tape ≡ possible
        → (came ≡ AsDefined) ⊎ ((is_tape_possible (tape_came came) command bytes tape ≡ true) × (on_tape (tape_came came) ≡ came))
    by_test true is = inr (is, rw is at counts)
    by_test false is = inl (sym (rw is at counts))

-- ---- what comes out otherwise does something with its medium

disk_touched : (came : DiskCame) (touch : DiskTouch) (disk : DiskState) → is_disk_possible came touch disk ≡ true
    → (came ≡ disk_way.AsDefined) ⊎ (touches (OnDisk touch disk) ≡ true)
disk_touched disk_way.AsDefined touch disk possible = inl refl
disk_touched (disk_way.Dishonest shown left) touch disk possible =
    let some = (and_parts _ _ (and_parts _ _ possible).1).0 in
    inr (by_either (is_some touch.reads) (is_some touch.writes) touch.syncs some)
  where
    by_either : (reads writes syncs : Bool) → (reads || writes) ≡ true → (reads || (writes || syncs)) ≡ true
    by_either true writes syncs is = refl
    by_either false writes syncs is = or_left writes syncs is
disk_touched (disk_way.ReadFailed honest) touch disk possible =
    inr (or_left (is_some touch.reads) _ (and_parts _ _ (and_parts _ _ possible).1).0)
disk_touched (disk_way.WriteFailed left honest) touch disk possible =
    inr (or_right (is_some touch.reads) _ (and_parts _ _ (and_parts _ _ possible).1).0)

tape_touched : (came : TapeCame) (command : TapeCommand) (bytes : List ℕ) (tape : TapeState) → is_tape_possible came command bytes tape ≡ true
    → (came ≡ tape_way.AsDefined) ⊎ (touches (OnTape command bytes tape) ≡ true)
tape_touched tape_way.AsDefined command bytes tape possible = inl refl
tape_touched (tape_way.Dishonest given left) command bytes tape possible =
    let touch = tape_touch command tape in
    inr (by_either touch.reads touch.writes touch.syncs tape.honest (and_parts _ _ (and_parts _ _ possible).1).0)
  where
    by_either : (reads writes syncs honest : Bool) → (reads || (writes && not honest)) ≡ true → (reads || (writes || syncs)) ≡ true
    by_either true writes syncs honest is = refl
    by_either false true syncs honest is = refl
    by_either false false syncs honest is = absurd (false≢true is)
tape_touched (tape_way.ReadFailed honest) command bytes tape possible =
    inr (or_left (tape_touch command tape).reads _ (and_parts _ _ (and_parts _ _ possible).1).0)
tape_touched (tape_way.WriteFailed left) command bytes tape possible =
    inr (or_right (tape_touch command tape).reads _ (and_parts _ _ (and_parts _ _ possible).1).0)

pub failed_touch : (came : CameOut) (touch : Touch) → way came touch ≡ came → (came ≡ AsDefined) ⊎ (touches touch ≡ true)
failed_touch came Nothing counts = inl (sym counts)
failed_touch came (OnDisk touch disk) counts = elim (disk_counts came touch disk counts) [
  | inl is ↦ inl is
  | inr can ↦ elim (disk_touched (disk_came came) touch disk (can.0)) [ inl is ↦ inl (sym (can.1) ∙ ap on_disk is) | inr is ↦ inr is ]
]
failed_touch came (OnTape command bytes tape) counts = elim (tape_counts came command bytes tape counts) [
  | inl is ↦ inl is
  | inr can ↦ elim (tape_touched (tape_came came) command bytes tape (can.0)) [ inl is ↦ inl (sym (can.1) ∙ ap on_tape is) | inr is ↦ inr is ]
]

-- ---- a store that cannot fail does not

disk_surely : (disk : DiskState) (rest : Bool) → (can_fail disk && rest) ≡ true → IsTrue disk.honest → IsTrue disk.steady → ⊥
disk_surely disk rest possible honest steady = false≢true (rw (honest, steady) at (and_parts (can_fail disk) rest possible).0)

disk_sure : (came : DiskCame) (touch : DiskTouch) (disk : DiskState) → is_disk_possible came touch disk ≡ true
    → IsTrue disk.honest → IsTrue disk.steady → came ≡ disk_way.AsDefined
disk_sure disk_way.AsDefined touch disk possible honest steady = refl
disk_sure (disk_way.Dishonest shown left) touch disk possible honest steady = absurd (disk_surely disk _ possible honest steady)
disk_sure (disk_way.ReadFailed is) touch disk possible honest steady = absurd (disk_surely disk _ possible honest steady)
disk_sure (disk_way.WriteFailed left is) touch disk possible honest steady = absurd (disk_surely disk _ possible honest steady)

command_sure : (came : CameOut) (bytes : List ℕ) (device : DeviceState) (command : Command)
    → way came (touch_by bytes device command) ≡ came → IsSteady (store_of device) → came ≡ AsDefined
command_sure came bytes device (to.Unit command) counts steady = sym counts
command_sure came bytes (Disk disk) (to.Disk command) counts steady = elim (disk_counts came _ disk.disk counts) [
  | inl is ↦ is
  | inr can ↦ sym (can.1) ∙ ap on_disk (disk_sure (disk_came came) _ disk.disk (can.0) steady.honest steady.steady)
]
command_sure came bytes (Tape tape) (to.Disk command) counts steady = sym counts
command_sure came bytes (Disk disk) (to.Tape command) counts steady = sym counts
command_sure came bytes (Tape tape) (to.Tape command) counts steady = elim (tape_counts came command bytes tape.tape counts) [
  | inl is ↦ is
  | inr can ↦ sym (can.1) ∙ ap on_tape (sure_came (tape_came came) command bytes tape.tape (can.0) steady.honest steady.steady)
]

pub steady_as_defined : (came : CameOut) (bytes : List ℕ) (device : DeviceState) (result : Result Command Refusal)
    → way came (touch_where bytes device result) ≡ came → IsSteady (store_of device) → came ≡ AsDefined
steady_as_defined came bytes device (Err refusal) counts steady = sym counts
steady_as_defined came bytes device (Ok command) counts steady = command_sure came bytes device command counts steady

-- ---- a store that is still honest, and did not fail

disk_trusted : (came : DiskCame) (old : StoreState) → IsTrustedStore old (disk_store came old) → came ≡ disk_way.AsDefined
disk_trusted disk_way.AsDefined old trusted = refl
disk_trusted (disk_way.Dishonest shown left) old trusted = absurd (false≢true trusted.honest)
disk_trusted (disk_way.ReadFailed honest) old trusted = absurd (omega (arith, trusted.none.same, trusted.none.known))
disk_trusted (disk_way.WriteFailed left honest) old trusted = absurd (omega (arith, trusted.none.same, trusted.none.known))

tape_trusted : (came : TapeCame) (old : StoreState) → IsTrustedStore old (tape_store came old) → came ≡ tape_way.AsDefined
tape_trusted tape_way.AsDefined old trusted = refl
tape_trusted (tape_way.Dishonest given left) old trusted = absurd (false≢true trusted.honest)
tape_trusted (tape_way.ReadFailed honest) old trusted = absurd (omega (arith, trusted.none.same, trusted.none.known))
tape_trusted (tape_way.WriteFailed left) old trusted = absurd (omega (arith, trusted.none.same, trusted.none.known))

-- a store that is sound was so before
disk_was_sound : (came : DiskCame) (old : StoreState) → IsSoundStore (disk_store came old) → IsSoundStore old
disk_was_sound disk_way.AsDefined old sound = sound
disk_was_sound (disk_way.Dishonest shown left) old sound = absurd (false≢true sound.honest)
disk_was_sound (disk_way.ReadFailed honest) old sound = absurd (omega (arith, sound.unfailed))
disk_was_sound (disk_way.WriteFailed left honest) old sound = absurd (omega (arith, sound.unfailed))

tape_was_sound : (came : TapeCame) (old : StoreState) → IsSoundStore (tape_store came old) → IsSoundStore old
tape_was_sound tape_way.AsDefined old sound = sound
tape_was_sound (tape_way.Dishonest given left) old sound = absurd (false≢true sound.honest)
tape_was_sound (tape_way.ReadFailed honest) old sound = absurd (omega (arith, sound.unfailed))
tape_was_sound (tape_way.WriteFailed left) old sound = absurd (omega (arith, sound.unfailed))

sound_back : (came : CameOut) (device : DeviceState) → IsSoundStore (store_after came device) → IsSoundStore (store_of device)
sound_back came (Disk disk) sound = disk_was_sound (disk_came came) _ sound
sound_back came (Tape tape) sound = tape_was_sound (tape_came came) _ sound

command_trusted : (came : CameOut) (bytes : List ℕ) (device : DeviceState) (command : Command)
    → way came (touch_by bytes device command) ≡ came → IsTrustedStore (store_of device) (store_after came device) → came ≡ AsDefined
command_trusted came bytes device (to.Unit command) counts trusted = sym counts
command_trusted came bytes (Disk disk) (to.Disk command) counts trusted = elim (disk_counts came _ disk.disk counts) [
  | inl is ↦ is
  | inr can ↦ sym (can.1) ∙ ap on_disk (disk_trusted (disk_came came) _ trusted)
]
command_trusted came bytes (Tape tape) (to.Disk command) counts trusted = sym counts
command_trusted came bytes (Disk disk) (to.Tape command) counts trusted = sym counts
command_trusted came bytes (Tape tape) (to.Tape command) counts trusted = elim (tape_counts came command bytes tape.tape counts) [
  | inl is ↦ is
  | inr can ↦ sym (can.1) ∙ ap on_tape (tape_trusted (tape_came came) _ trusted)
]

trusted_as_defined : (came : CameOut) (bytes : List ℕ) (device : DeviceState) (result : Result Command Refusal)
    → way came (touch_where bytes device result) ≡ came → IsTrustedStore (store_of device) (store_after came device) → came ≡ AsDefined
trusted_as_defined came bytes device (Err refusal) counts trusted = sym counts
trusted_as_defined came bytes device (Ok command) counts trusted = command_trusted came bytes device command counts trusted

pub way_defined : (touch : Touch) → way AsDefined touch ≡ AsDefined
way_defined Nothing = refl
way_defined (OnDisk touch disk) = refl
way_defined (OnTape command bytes tape) = refl

pub none_after : (device : DeviceState) → store_after AsDefined device ≡ store_of device
none_after (Disk disk) = refl
none_after (Tape tape) = refl

-- ---- one unit

module _ (nexus : NexusName) (cdb bytes : List ℕ) {should : CameOut → UnitState × Outcome} {old new : UnitState} {done : Outcome} where
  -- it came out as defined where its command does nothing to its medium, or its store is still honest and did not fail
  pub unit_as_defined : (performed : IsPerformed (touch_at nexus cdb bytes old) should old new done)
      → (touches (touch_at nexus cdb bytes old) ≡ true → IsTrustedStore (store_of old.device) (store_of new.device))
      → performed.came ≡ AsDefined
  unfolding touch_at
  unit_as_defined performed trusted = elim (failed_touch performed.came _ performed.possible) [
    | inl same ↦ same
    | inr touched ↦ trusted_as_defined performed.came bytes old.device (judged nexus cdb bytes old) performed.possible
        (subst (λ (store : StoreState). IsTrustedStore (store_of old.device) store) performed.store (trusted touched))
  ]

  -- and so it did
  pub unit_exact : IsPerformed (touch_at nexus cdb bytes old) should old new done
      → (touches (touch_at nexus cdb bytes old) ≡ true → IsTrustedStore (store_of old.device) (store_of new.device))
      → (new, done) ≡ should AsDefined
  unit_exact performed trusted = performed.answer ∙ ap should (unit_as_defined performed trusted)

  -- it was sound before
  pub unit_back : IsPerformed (touch_at nexus cdb bytes old) should old new done → IsSoundStore (store_of new.device) → IsSoundStore (store_of old.device)
  unit_back performed sound = sound_back performed.came old.device (subst IsSoundStore performed.store sound)

  -- one that cannot fail stays so
  pub unit_sure : IsPerformed (touch_at nexus cdb bytes old) should old new done → IsSureStore (store_of old.device) → IsSureStore (store_of new.device)
  unfolding touch_at
  unit_sure performed sure =
      let as_defined = steady_as_defined performed.came bytes old.device (judged nexus cdb bytes old) performed.possible
      (record { honest = sure.sound.honest; steady = sure.steady }) in
      let same : store_of new.device ≡ store_of old.device =
      performed.store ∙ ap (λ (came : CameOut). store_after came old.device) as_defined ∙ none_after old.device in
      subst IsSureStore (sym same) sure

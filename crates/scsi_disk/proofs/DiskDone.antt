-- How a command to a disk came out, by what the calls to its medium did.
use Rattle.std.proofs.Common.{◌≡◌, ℕ, zero, suc, ◌*◌, List, length, take, drop, replicate, Bool, true, false, IsTrue, Option, Some}
use Rattle.std.proofs.Common.{None, nat_lt, refl, sym, ap, subst, ◌∙◌, arith}
use Rattle.std.specs.Prelude.{is_some}
use Rattle.std.proofs.lemmas.Bool.{false≢true, lt-ltb, eq-eqb, and_from, or_left, or_right}
use Rattle.std.proofs.lemmas.List.{length-replicate}
use Rattle.media_store.specs.Failures.{risen}
use Rattle.media_block.specs.Blocks.{DiskState, block_length, blocks_of, data_of, replaced, first_difference}
use Rattle.scsi_sense.specs.Done.{Outcome, good_with, good_taking, check_condition}
use Rattle.scsi_cdb.specs.Range.{Range}
use Rattle.scsi_cdb.specs.declared.command.DiskCommand.{DiskCommand}
use Rattle.scsi_cdb.specs.declared.command.DiskCommand.TheVariants.{Read, Write, VerifyData, SynchronizeCache, WriteSame, CompareAndWrite}
use Rattle.scsi_disk.specs.DiskDevice.{DiskUnit}
use Rattle.scsi_disk.specs.DiskCame.{AsDefined, Dishonest, ReadFailed, WriteFailed, Shown, is_below, are_shown}
use Rattle.scsi_disk.specs.DiskCommands.{IsDiskDone, shown, compared, miscompare, told_of, disk_defined, touch_of, unrecovered_read, write_error}
use Rattle.scsi_disk.specs.DiskWrites.{IsWritten, IsTorn}
use Rattle.scsi_disk.proofs.DiskCame.{can_be_so, may_fail, all_left, others_left}

abbrev pub with_disk : DiskUnit → DiskState → DiskUnit
with_disk unit disk = record unit { disk = disk }

pub some_block : (count : ℕ) → (count ≡ 0 → ⊥) → nat_lt 0 count ≡ true
some_block zero none = absurd (none refl)
some_block (suc count) none = lt-ltb 0 (suc count) (omega arith)

-- a disk of which at most the honesty has changed, and has not
as_before : (old mid : DiskState) → mid ≡ record old { honest = mid.honest } → mid.honest ≡ old.honest → mid ≡ old
as_before old mid same honest = same ∙ ap (λ (h : Bool). record old { honest = h }) honest

module _ (command : DiskCommand) (bytes : List ℕ) (unit : DiskUnit) where
  -- ---- a command that reads

  -- the store failed
  pub reading_failed : (new : DiskState) → is_some (touch_of command).reads ≡ true
      → new ≡ record unit.disk { failures = risen unit.disk.failures; honest = new.honest }
      → (IsTrue new.honest → IsTrue unit.disk.honest) → (IsTrue unit.disk.steady → IsTrue unit.disk.honest → ⊥)
      → IsDiskDone command bytes unit (with_disk unit new) (check_condition unrecovered_read)
  reading_failed new reads same back sure = record {
    came = ReadFailed new.honest;
    possible = and_from _ _ (may_fail unit.disk sure)
        (and_from _ _ reads (can_be_so (touch_of command) unit.disk.honest new.honest back (λ none. absurd (false≢true (sym none ∙ reads)))));
    disk = ap (with_disk unit) same;
    told = refl;
  }

  -- it was shown what is not there, and wrote nothing
  pub shown_wrong : (seen : Shown) (new : DiskState) (done : Outcome) → new.honest ≡ false
      → is_some (touch_of command).reads ≡ true
      → are_shown (touch_of command).reads seen ≡ true
      → new ≡ record unit.disk { honest = new.honest }
      → (IsTrue unit.disk.steady → IsTrue unit.disk.honest → new ≡ unit.disk)
      → disk_defined seen bytes command unit.disk ≡ unit.disk → done ≡ told_of seen unit.disk.blocks command
      → IsDiskDone command bytes unit (with_disk unit new) done
  shown_wrong seen new done is reads bounded same sure defined told = record {
    came = Dishonest seen unit.disk.blocks;
    possible = and_from _ _ (may_fail unit.disk (λ steady honest. false≢true (sym is ∙ ap (λ (disk : DiskState). disk.honest) (sure steady honest) ∙ honest)))
        (and_from _ _ (or_left (is_some (touch_of command).reads) _ reads)
        (and_from _ _ (can_be_so (touch_of command) unit.disk.honest false (λ honest. absurd (false≢true honest))
        (λ none. absurd (false≢true (sym none ∙ reads))))
        (and_from _ _ bounded (all_left (touch_of command).writes false unit.disk.blocks))));
    disk =
        ap (with_disk unit) (same ∙ ap (λ (h : Bool). record unit.disk { honest = h }) is)
        ∙ ap (λ (d : DiskState). record unit { disk = record d { blocks = unit.disk.blocks; honest = false } }) (sym defined);
    told = told;
  }

  -- it was shown what is there, and wrote nothing
  pub shown_right : (new : DiskState) (done : Outcome) → new ≡ unit.disk
      → disk_defined (shown unit.disk.blocks bytes command) bytes command unit.disk ≡ unit.disk
      → done ≡ told_of (shown unit.disk.blocks bytes command) unit.disk.blocks command
      → IsDiskDone command bytes unit (with_disk unit new) done
  shown_right new done same defined told = record {
    came = AsDefined;
    possible = refl;
    disk = ap (with_disk unit) (same ∙ sym defined);
    told = told;
  }

  -- ---- a command that compares: there is a first difference, or none

  pub compare_given : (seen : Shown) (new : DiskState) (done : Outcome) (honest : Bool) → new.honest ≡ honest
      → is_some (touch_of command).reads ≡ true
      → are_shown (touch_of command).reads seen ≡ true
      → new ≡ record unit.disk { honest = new.honest }
      → (IsTrue new.honest → IsTrue unit.disk.honest)
      → (IsTrue unit.disk.steady → IsTrue unit.disk.honest → new ≡ unit.disk)
      → (IsTrue new.honest → seen.difference ≡ (shown unit.disk.blocks bytes command).difference)
      → ((other : Shown) → seen.difference ≡ other.difference → disk_defined other bytes command unit.disk ≡ unit.disk)
      → ((other : Shown) → seen.difference ≡ other.difference → done ≡ told_of other unit.disk.blocks command)
      → IsDiskDone command bytes unit (with_disk unit new) done
  compare_given seen new done true is reads bounded same back sure agreed defined told =
      let truth = shown unit.disk.blocks bytes command in
      shown_right new done (as_before unit.disk new same (is ∙ sym (back is))) (defined truth (agreed is)) (told truth (agreed is))
  compare_given seen new done false is reads bounded same back sure agreed defined told =
      shown_wrong seen new done is reads bounded same sure (defined seen refl) (told seen refl)

  -- ---- a command that writes, on a disk of which it has read before or not

  -- what it writes, where this was shown
  abbrev pub IsThen : Range → List (List ℕ) → Bool → Outcome → Shown → Type 0
  IsThen range others synced done seen =
      (disk_defined seen bytes command unit.disk ≡ record unit.disk { blocks = replaced range.first others unit.disk.blocks; synced = synced })
      × (done ≡ told_of seen unit.disk.blocks command)

  module _ (range : Range) (mid new : DiskState) (writes : (touch_of command).writes ≡ Some range)
      (same : mid ≡ record unit.disk { honest = mid.honest }) (back : IsTrue mid.honest → IsTrue unit.disk.honest)
      (kept : is_some (touch_of command).reads ≡ false → mid.honest ≡ unit.disk.honest) where
    -- the store failed
    pub writing_failed : IsTorn range.first range.count mid new → (IsTrue unit.disk.steady → IsTrue unit.disk.honest → ⊥)
        → IsDiskDone command bytes unit (record (with_disk unit new) { is_ready = false }) (check_condition write_error)
    writing_failed torn sure =
        let blocks : mid.blocks ≡ unit.disk.blocks = ap (λ (d : DiskState). d.blocks) same in
        let left = others_left range mid.honest unit.disk.blocks new.blocks (λ honest. rw blocks at (torn.others honest)) (torn.as_many ∙ ap length blocks) in
        record {
          came = WriteFailed new.blocks mid.honest;
          possible = and_from _ _ (may_fail unit.disk sure)
              (and_from _ _ (rw writes refl)
              (and_from _ _ (can_be_so (touch_of command) unit.disk.honest mid.honest back kept) (rw writes left)));
          disk = ap (λ (d : DiskState). record unit { disk = d; is_ready = false }) (torn.rest
              ∙ ap (λ (d : DiskState). record d { blocks = new.blocks; synced = false; failures = risen d.failures }) same);
          told = refl;
        }

    -- it was written
    pub writing_given : (others : List (List ℕ)) (synced : Bool) (seen : Shown) (done : Outcome) (honest : Bool) → mid.honest ≡ honest
        → are_shown (touch_of command).reads seen ≡ true
        → (IsTrue unit.disk.steady → IsTrue unit.disk.honest → mid ≡ unit.disk)
        → IsWritten range.first others synced mid new
        → (IsTrue mid.honest → IsThen range others synced done (shown unit.disk.blocks bytes command))
        → IsThen range others synced done seen
        → IsDiskDone command bytes unit (with_disk unit new) done
    writing_given others synced seen done true is bounded sure written right wrong =
        let unchanged : mid ≡ unit.disk = as_before unit.disk mid same (is ∙ sym (back is)) in
        let all : IsWritten range.first others synced unit.disk new =
        subst (λ (d : DiskState). IsWritten range.first others synced d new) unchanged written in
        record {
          came = AsDefined;
          possible = refl;
          disk = ap (with_disk unit) (all.rest
              ∙ ap (λ (blocks : List (List ℕ)). record unit.disk { blocks = blocks; synced = synced }) (all.blocks (back is))
              ∙ sym (right is).0);
          told = (right is).1;
        }
    writing_given others synced seen done false is bounded sure written right wrong =
        let blocks : mid.blocks ≡ unit.disk.blocks = ap (λ (d : DiskState). d.blocks) same in
        let left = others_left range false unit.disk.blocks new.blocks (λ honest. absurd (false≢true honest)) (written.as_many ∙ ap length blocks) in
        record {
          came = Dishonest seen new.blocks;
          possible = and_from _ _
              (may_fail unit.disk (λ steady honest. false≢true (sym is ∙ ap (λ (disk : DiskState). disk.honest) (sure steady honest) ∙ honest)))
              (and_from _ _ (or_right (is_some (touch_of command).reads) _ (rw writes refl))
              (and_from _ _ (can_be_so (touch_of command) unit.disk.honest false (λ honest. absurd (false≢true honest)) (λ none. sym is ∙ kept none))
              (and_from _ _ bounded (rw writes left))));
          disk =
              ap (with_disk unit) (written.rest
              ∙ ap (λ (d : DiskState). record d { blocks = new.blocks; synced = synced }) (same ∙ ap (λ (h : Bool). record unit.disk { honest = h }) is))
              ∙ ap (λ (d : DiskState). record unit { disk = record d { blocks = new.blocks; honest = false } }) (sym wrong.0);
          told = wrong.1;
        }

-- ---- READ

-- it gave bytes, as it should, or others
pub read_given : (range : Range) (bytes : List ℕ) (unit : DiskUnit) (new : DiskState) (given : List ℕ) (honest : Bool)
    → nat_lt 0 range.count ≡ true → new.honest ≡ honest → length given ≡ block_length * range.count
    → new ≡ record unit.disk { honest = new.honest }
    → (IsTrue new.honest → IsTrue unit.disk.honest)
    → (IsTrue new.honest → given ≡ data_of unit.disk.blocks range.first range.count)
    → (IsTrue unit.disk.steady → IsTrue unit.disk.honest → new ≡ unit.disk)
    → IsDiskDone (Read range) bytes unit (with_disk unit new) (good_with given)
read_given range bytes unit new given true some is long same back read sure =
    shown_right (Read range) bytes unit new _ (as_before unit.disk new same (is ∙ sym (back is))) refl (ap good_with (read is))
read_given range bytes unit new given false some is long same back read sure =
    shown_wrong (Read range) bytes unit (record { given = given; difference = None }) new _ is (rw some refl)
    (rw some (and_from _ _ (eq-eqb _ _ long) refl)) same sure refl refl

-- what it was shown where there is this difference, or none
abbrev pub differing : Range → Option ℕ → Shown
differing range found = record { given = replicate (block_length * range.count) 0; difference = found }

pub differing_shown : (range : Range) (found : Option ℕ) → is_below found (block_length * range.count) ≡ true
    → are_shown (Some range) (differing range found) ≡ true
differing_shown range found within = and_from _ _ (eq-eqb _ _ (length-replicate (block_length * range.count) 0)) within

-- ---- VERIFY with data

pub verify_given : (range : Range) (bytes : List ℕ) (unit : DiskUnit) (new : DiskState) (found : Option ℕ) → nat_lt 0 range.count ≡ true
    → new ≡ record unit.disk { honest = new.honest } → (IsTrue new.honest → IsTrue unit.disk.honest)
    → (IsTrue unit.disk.steady → IsTrue unit.disk.honest → new ≡ unit.disk)
    → (IsTrue new.honest → found ≡ first_difference (data_of unit.disk.blocks range.first range.count) (take (block_length * range.count) bytes))
    → is_below found (block_length * range.count) ≡ true
    → IsDiskDone (VerifyData range) bytes unit (with_disk unit new) (compared (block_length * range.count) found)
verify_given range bytes unit new found some same back sure agreed within =
    compare_given (VerifyData range) bytes unit (differing range found) new _ new.honest refl (rw some refl)
    (rw some (differing_shown range found within)) same back sure agreed
    (λ seen is. refl) (λ seen is. ap (compared (block_length * range.count)) is)

-- ---- WRITE

pub write_given : (range : Range) (force_unit_access : Bool) (bytes : List ℕ) (unit : DiskUnit) (new : DiskState) → nat_lt 0 range.count ≡ true
    → IsWritten range.first (blocks_of range.count (take (block_length * range.count) bytes)) force_unit_access unit.disk new
    → IsDiskDone (Write range force_unit_access) bytes unit (with_disk unit new) (good_taking (block_length * range.count))
write_given range force_unit_access bytes unit new some done =
    let command = Write range force_unit_access in
    let others = blocks_of range.count (take (block_length * range.count) bytes) in
    let truth = shown unit.disk.blocks bytes command in
    let goes : IsThen command bytes unit range others force_unit_access (good_taking (block_length * range.count)) truth = (rw some refl, refl) in
    writing_given command bytes unit range unit.disk new (rw some refl) refl (λ honest. honest) (λ none. refl)
    others force_unit_access truth _ unit.disk.honest refl refl (λ steady honest. refl) done (λ honest. goes) goes

pub write_failed : (range : Range) (force_unit_access : Bool) (bytes : List ℕ) (unit : DiskUnit) (new : DiskState) → nat_lt 0 range.count ≡ true
    → IsTorn range.first range.count unit.disk new → (IsTrue unit.disk.steady → IsTrue unit.disk.honest → ⊥)
    → IsDiskDone (Write range force_unit_access) bytes unit (record (with_disk unit new) { is_ready = false }) (check_condition write_error)
write_failed range force_unit_access bytes unit new some torn sure =
    writing_failed (Write range force_unit_access) bytes unit range unit.disk new (rw some refl) refl (λ honest. honest) (λ none. refl) torn sure

-- ---- WRITE SAME

pub same_given : (range : Range) (bytes : List ℕ) (unit : DiskUnit) (new : DiskState) → nat_lt 0 range.count ≡ true
    → IsWritten range.first (replicate range.count (take block_length bytes)) false unit.disk new
    → IsDiskDone (WriteSame range) bytes unit (with_disk unit new) (good_taking block_length)
same_given range bytes unit new some done =
    let others = replicate range.count (take block_length bytes) in
    let truth = shown unit.disk.blocks bytes (WriteSame range) in
    let goes : IsThen (WriteSame range) bytes unit range others false (good_taking block_length) truth = (rw some refl, refl) in
    writing_given (WriteSame range) bytes unit range unit.disk new (rw some refl) refl (λ honest. honest) (λ none. refl)
    others false truth _ unit.disk.honest refl refl (λ steady honest. refl) done (λ honest. goes) goes

pub same_failed : (range : Range) (bytes : List ℕ) (unit : DiskUnit) (new : DiskState) → nat_lt 0 range.count ≡ true
    → IsTorn range.first range.count unit.disk new → (IsTrue unit.disk.steady → IsTrue unit.disk.honest → ⊥)
    → IsDiskDone (WriteSame range) bytes unit (record (with_disk unit new) { is_ready = false }) (check_condition write_error)
same_failed range bytes unit new some torn sure =
    writing_failed (WriteSame range) bytes unit range unit.disk new (rw some refl) refl (λ honest. honest) (λ none. refl) torn sure

-- ---- COMPARE AND WRITE

module _ (range : Range) (force_unit_access : Bool) (bytes : List ℕ) (unit : DiskUnit) (mid : DiskState) (some : nat_lt 0 range.count ≡ true)
    (same : mid ≡ record unit.disk { honest = mid.honest }) (back : IsTrue mid.honest → IsTrue unit.disk.honest)
    (sure : IsTrue unit.disk.steady → IsTrue unit.disk.honest → mid ≡ unit.disk) where
  abbrev IsFound : Option ℕ → Type 0
  IsFound found =
      IsTrue mid.honest → found ≡ first_difference (data_of unit.disk.blocks range.first range.count) (take (block_length * range.count) bytes)

  pub differs : (at : ℕ) → IsFound (Some at) → is_below (Some at) (block_length * range.count) ≡ true
      → IsDiskDone (CompareAndWrite range force_unit_access) bytes unit (with_disk unit mid) (check_condition (miscompare at))
  differs at found within =
      compare_given (CompareAndWrite range force_unit_access) bytes unit (differing range (Some at)) mid _ mid.honest refl (rw some refl)
      (rw some (differing_shown range (Some at) within)) same back sure found
      (λ seen is. rw (← is) refl) (λ seen is. ap (compared (2 * (block_length * range.count))) is)

  reads_some : is_some (touch_of (CompareAndWrite range force_unit_access)).reads ≡ false → mid.honest ≡ unit.disk.honest
  reads_some none = absurd (false≢true (sym none ∙ rw some refl))

  pub same_written : (new : DiskState) → IsFound None
      → IsWritten range.first (blocks_of range.count (take (block_length * range.count) (drop (block_length * range.count) bytes))) force_unit_access mid new
      → IsDiskDone (CompareAndWrite range force_unit_access) bytes unit (with_disk unit new) (good_taking (2 * (block_length * range.count)))
  same_written new found done =
      let command = CompareAndWrite range force_unit_access in
      let others = blocks_of range.count (take (block_length * range.count) (drop (block_length * range.count) bytes)) in
      let goes : (seen : Shown) → None ≡ seen.difference
      → IsThen command bytes unit range others force_unit_access (good_taking (2 * (block_length * range.count))) seen =
      λ seen is. (rw (← is, some) refl, ap (compared (2 * (block_length * range.count))) is) in
      let seen = differing range None in
      writing_given command bytes unit range mid new (rw some refl) same back reads_some
      others force_unit_access seen _ mid.honest refl (rw some (differing_shown range None refl)) sure done
      (λ honest. goes (shown unit.disk.blocks bytes command) (found honest)) (goes seen refl)

  pub same_torn : (new : DiskState) → IsTorn range.first range.count mid new → (IsTrue mid.steady → IsTrue mid.honest → ⊥)
      → IsDiskDone (CompareAndWrite range force_unit_access) bytes unit (record (with_disk unit new) { is_ready = false }) (check_condition write_error)
  same_torn new torn fails =
      writing_failed (CompareAndWrite range force_unit_access) bytes unit range mid new (rw some refl) same back reads_some torn
      (λ steady honest. let was = sure steady honest in fails (rw was steady) (rw was honest))

-- ---- SYNCHRONIZE CACHE

pub sync_failed : (range : Range) (bytes : List ℕ) (unit : DiskUnit) (new : DiskState) → new ≡ record unit.disk { synced = false; failures = risen unit.disk.failures }
    → (IsTrue unit.disk.steady → IsTrue unit.disk.honest → ⊥)
    → IsDiskDone (SynchronizeCache range) bytes unit (record (with_disk unit new) { is_ready = false }) (check_condition write_error)
sync_failed range bytes unit new is sure = record {
  came = WriteFailed unit.disk.blocks unit.disk.honest;
  possible = and_from _ _ (may_fail unit.disk sure)
      (and_from _ _ refl (and_from _ _ (can_be_so (touch_of (SynchronizeCache range)) unit.disk.honest unit.disk.honest (λ honest. honest) (λ none. refl))
      (all_left None unit.disk.honest unit.disk.blocks)));
  disk = ap (λ (disk : DiskState). record unit { disk = disk; is_ready = false }) is;
  told = refl;
}

-- How WRITE FILEMARKS came out.
use Rattle.std.proofs.Common.{◌≡◌, ◌≢◌, ℕ, zero, suc, ◌+◌, ◌*◌, ◌≤◌, List, [], map, replicate, Bool, true, false, IsTrue, refl, sym, ap, ◌∙◌}
use Rattle.std.proofs.Math.Nat.{suc-ne-zero}
use Rattle.media_store.specs.Failures.{risen}
use Rattle.media_tape.specs.Items.{Item, Filemark, size, size_of}
use Rattle.media_tape.specs.Tape.{TapeState, IsSizedAs, size_told, wrote_if_told, synced_if_told, marks_told, tape_marked, marked_synced, lost, erased}
use Rattle.media_tape.specs.declared.outcome.Written.{Written}
use Rattle.media_tape.specs.declared.outcome.Written.TheVariants as written
use Rattle.scsi_sense.specs.Done.{Outcome, check_condition}
use Rattle.scsi_cdb.specs.declared.tape.TapeCommand.TheVariants.{WriteFilemarks}
use Rattle.scsi_tape.specs.TapeSense.{write_error}
use Rattle.scsi_tape.specs.State.{TapeUnitState}
use Rattle.scsi_tape.specs.Commands.{marks_outcome}
use Rattle.scsi_tape.specs.CameOut.{IsTapeDone, can_fit, standing_of}
use Rattle.scsi_tape.proofs.Came.{with_tape, unsynced_rest, as_defined, write_answered, write_fails, torn_items, torn_sizes}
use Rattle.scsi_tape.proofs.Records.{not_zero}
use Rattle.scsi_tape.proofs.WriteDone.{refused, fits_so}

-- but for the items and what stands after them
marks_rest : (told : Written) (others before after : List Item) (tail : List ℕ) (tape : TapeState)
    → record tape { before = before; after = after; tail = tail; synced = marked_synced told tape.synced }
    ≡ record (synced_if_told told (wrote_if_told told others tape)) { before = before; after = after; tail = tail; honest = tape.honest }
marks_rest written.Whole others before after tail tape = refl
marks_rest written.Early others before after tail tape = refl
marks_rest written.Refused others before after tail tape = refl

pub marks_done : (count : ℕ) (bytes : List ℕ) (unit : TapeUnitState) (new : TapeState) (ended : Written) (done : Outcome)
    → new.honest ≡ unit.tape.honest
    → (IsTrue unit.tape.honest → new ≡ tape_marked count unit.tape)
    → IsSizedAs (tape_marked count unit.tape) new
    → ended ≡ marks_told count unit.tape
    → (count ≡ 0 → (ended ≡ written.Whole) × (new ≡ record unit.tape { synced = true }))
    → (ended ≡ written.Refused → new ≡ unit.tape)
    → new.synced ≡ marked_synced ended unit.tape.synced
    → new ≡ record unit.tape { before = new.before; after = new.after; tail = new.tail; synced = new.synced }
    → done ≡ marks_outcome count ended → done.given ≡ []
    → IsTapeDone (WriteFilemarks count) bytes unit (with_tape unit new) done
marks_done zero bytes unit new ended done honest tape sized told none none_written synced rest outcome given =
    as_defined (WriteFilemarks 0) bytes unit new done (none refl).1 (outcome ∙ ap (marks_outcome 0) (none refl).0)
marks_done (suc count) bytes unit new ended done honest tape sized told none none_written synced rest outcome given =
    let more : ℕ = 8 * suc count in
    let told_so : ended ≡ size_told more unit.tape = rw (not_zero count) at told in
    let marks : List Item = replicate (suc count) Filemark in
    let as_it_was : can_fit more unit.tape ≡ false
    → new ≡ synced_if_told (size_told more unit.tape) (wrote_if_told (size_told more unit.tape) marks unit.tape) = λ no_room.
    let is = refused more unit.tape no_room in
    none_written (told_so ∙ is) ∙ sym (ap (λ (t : Written). synced_if_told t (wrote_if_told t marks unit.tape)) is) in
    let synced_is = synced ∙ ap (λ (t : Written). marked_synced t unit.tape.synced) told_so in
    let rest_is = rest
    ∙ ap (λ (s : Bool). record unit.tape { before = new.before; after = new.after; tail = new.tail; synced = s }) synced_is
    ∙ marks_rest (size_told more unit.tape) marks new.before new.after new.tail unit.tape in
    write_answered (WriteFilemarks (suc count)) bytes unit new done honest tape (rw (not_zero count) as_it_was) sized (rw (not_zero count) rest_is)
    (outcome ∙ ap (marks_outcome (suc count)) told) given

pub marks_failed : (count : ℕ) (bytes : List ℕ) (unit : TapeUnitState) (new : TapeState)
    → (IsTrue unit.tape.honest → count ≢ 0 → new ≡ lost new.tail false unit.tape)
    → (count ≢ 0 → IsSizedAs (erased unit.tape) new)
    → (count ≡ 0 → new ≡ record unit.tape { synced = false; failures = risen unit.tape.failures })
    → new.synced ≡ false
    → (count ≢ 0 → size_of unit.tape.before + 8 * count ≤ unit.tape.capacity)
    → new ≡ record unit.tape { before = new.before; after = new.after; tail = new.tail; synced = new.synced; failures = risen unit.tape.failures }
    → (IsTrue unit.tape.steady → IsTrue unit.tape.honest → unit.tape.capacity ≤ unit.tape.reach → ⊥)
    → IsTapeDone (WriteFilemarks count) bytes unit (record (with_tape unit new) { is_working = false }) (check_condition write_error)
marks_failed zero bytes unit new failed kept none unsynced fits rest sure =
    write_fails (WriteFilemarks 0) bytes unit (standing_of new) new refl (ap (λ (t : TapeState). map size t.before) (none refl))
    (ap (λ (tape : TapeState). record unit { tape = tape; is_working = false }) (none refl)) sure
marks_failed (suc count) bytes unit new failed kept none unsynced fits rest sure =
    let some = suc-ne-zero count in
    let can = fits_so (8 * suc count) unit.tape (fits some) in
    let left : IsTrue unit.tape.honest → new ≡ lost new.tail false unit.tape = λ honest. failed honest some in
    let unsynced_so = unsynced_rest unit new rest unsynced in
    write_fails (WriteFilemarks (suc count)) bytes unit (standing_of new) new (rw (not_zero count, can) refl)
    (torn_sizes unit new left (kept some) unsynced_so)
    (rw (not_zero count, can) (torn_items unit new left (kept some) unsynced_so)) sure

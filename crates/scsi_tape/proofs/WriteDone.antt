-- How WRITE of some bytes came out.
use Rattle.std.proofs.Common.{◌≡◌, ◌≢◌, ℕ, ◌+◌, ◌≤◌, ◌<◌, List, [], ◌∷◌, length, take, Bool, true, false, IsTrue, nat_lt, refl, sym, ap, ◌∙◌, arith}
use Rattle.std.proofs.lemmas.Bool.{le-leb, leb-false}
use Rattle.std.proofs.lemmas.List.{length-take}
use Rattle.media_store.specs.Failures.{risen}
use Rattle.media_tape.specs.Items.{Item, Record, size_of}
use Rattle.media_tape.specs.Tape.{TapeState, IsSizedAs, size_told, write_told, wrote_if_told, tape_written, written_synced, lost, erased}
use Rattle.media_tape.specs.declared.outcome.Written.{Written}
use Rattle.media_tape.specs.declared.outcome.Written.TheVariants as written
use Rattle.media_tape.proofs.Commands.{refused_told, write_told-is, tape_written-is}
use Rattle.scsi_sense.specs.Done.{Outcome, check_condition}
use Rattle.scsi_cdb.specs.declared.tape.TapeCommand.TheVariants.{Write}
use Rattle.scsi_tape.specs.TapeSense.{write_error}
use Rattle.scsi_tape.specs.State.{TapeUnitState}
use Rattle.scsi_tape.specs.Commands.{write_outcome}
use Rattle.scsi_tape.specs.CameOut.{IsTapeDone, can_fit, standing_of}
use Rattle.scsi_tape.proofs.Came.{with_tape, unsynced_rest, write_answered, write_fails, torn_items, torn_sizes}
use Rattle.scsi_tape.proofs.Records.{some_byte}

-- what does not fit is refused
pub refused : (more : ℕ) (tape : TapeState) → can_fit more tape ≡ false → size_told more tape ≡ written.Refused
refused more tape none = refused_told more tape (leb-false (size_of tape.before + more) tape.capacity none)

pub fits_so : (more : ℕ) (tape : TapeState) → size_of tape.before + more ≤ tape.capacity → can_fit more tape ≡ true
fits_so more tape fits = le-leb (size_of tape.before + more) tape.capacity fits

-- but for the items and what stands after them
wrote_rest : (told : Written) (others before after : List Item) (tail : List ℕ) (tape : TapeState)
    → record tape { before = before; after = after; tail = tail; synced = written_synced told tape.synced }
    ≡ record (wrote_if_told told others tape) { before = before; after = after; tail = tail; honest = tape.honest }
wrote_rest written.Whole others before after tail tape = refl
wrote_rest written.Early others before after tail tape = refl
wrote_rest written.Refused others before after tail tape = refl

module _ (count : ℕ) (bytes : List ℕ) (unit : TapeUnitState) (new : TapeState) (any : count ≢ 0) (enough : count ≤ length bytes) where
  some : nat_lt 0 count ≡ true
  some = some_byte count any

  long : length (take count bytes) ≡ count
  long = length-take count bytes ∙ omega (arith, enough)

  some_taken : 0 < length (take count bytes)
  some_taken = omega (arith, long, any)

  told_is : write_told (take count bytes) unit.tape ≡ size_told (count + 8) unit.tape
  told_is = write_told-is (take count bytes) unit.tape some_taken ∙ ap (λ (n : ℕ). size_told (n + 8) unit.tape) long

  written_is : tape_written (take count bytes) unit.tape
      ≡ wrote_if_told (size_told (count + 8) unit.tape) (Record (take count bytes) ∷ []) unit.tape
  written_is =
      tape_written-is (take count bytes) unit.tape some_taken
      ∙ ap (λ (n : ℕ). wrote_if_told (size_told (n + 8) unit.tape) (Record (take count bytes) ∷ []) unit.tape) long

  pub write_done : (ended : Written) (done : Outcome)
      → new.honest ≡ unit.tape.honest
      → (IsTrue unit.tape.honest → new ≡ tape_written (take count bytes) unit.tape)
      → IsSizedAs (tape_written (take count bytes) unit.tape) new
      → ended ≡ write_told (take count bytes) unit.tape
      → (ended ≡ written.Refused → new ≡ unit.tape)
      → (take count bytes ≢ [] → new.synced ≡ written_synced ended unit.tape.synced)
      → new ≡ record unit.tape { before = new.before; after = new.after; tail = new.tail; synced = new.synced }
      → done ≡ write_outcome count ended → done.given ≡ []
      → IsTapeDone (Write count) bytes unit (with_tape unit new) done
  write_done ended done honest tape sized told none_written synced rest outcome given =
      let told_so = told ∙ told_is in
      let as_it_was : can_fit (count + 8) unit.tape ≡ false → new ≡ tape_written (take count bytes) unit.tape = λ none.
      let is = refused (count + 8) unit.tape none in
      none_written (told_so ∙ is)
      ∙ sym (written_is ∙ ap (λ (t : Written). wrote_if_told t (Record (take count bytes) ∷ []) unit.tape) is) in
      let synced_is = synced (λ none. omega (arith, some_taken, ap length none)) ∙ ap (λ (t : Written). written_synced t unit.tape.synced) told_so in
      let rest_is = rest
      ∙ ap (λ (s : Bool). record unit.tape { before = new.before; after = new.after; tail = new.tail; synced = s }) synced_is
      ∙ wrote_rest (size_told (count + 8) unit.tape) (Record (take count bytes) ∷ []) new.before new.after new.tail unit.tape
      ∙ ap (λ (t : TapeState). record t { before = new.before; after = new.after; tail = new.tail; honest = unit.tape.honest }) (sym written_is) in
      write_answered (Write count) bytes unit new done honest tape (rw some as_it_was) sized rest_is (outcome ∙ ap (write_outcome count) told) given

  pub write_failed :
      (IsTrue unit.tape.honest → new ≡ lost new.tail false unit.tape)
      → IsSizedAs (erased unit.tape) new
      → new.synced ≡ false
      → size_of unit.tape.before + (length (take count bytes) + 8) ≤ unit.tape.capacity
      → new ≡ record unit.tape { before = new.before; after = new.after; tail = new.tail; synced = new.synced; failures = risen unit.tape.failures }
      → (IsTrue unit.tape.steady → IsTrue unit.tape.honest → unit.tape.capacity ≤ unit.tape.reach → ⊥)
      → IsTapeDone (Write count) bytes unit (record (with_tape unit new) { is_working = false }) (check_condition write_error)
  write_failed failed kept unsynced fits rest sure =
      let can = fits_so (count + 8) unit.tape (rw long at fits) in
      let unsynced_so = unsynced_rest unit new rest unsynced in
      write_fails (Write count) bytes unit (standing_of new) new (rw (some, can) refl) (torn_sizes unit new failed kept unsynced_so)
      (rw (some, can) (torn_items unit new failed kept unsynced_so)) sure

-- How READ of some bytes came out.
use Rattle.std.proofs.Common.{◌≡◌, ◌≢◌, ℕ, zero, suc, ◌≤◌, ◌==◌, min, List, [], ◌∷◌, length, take, arith, Bool, true, false, IsTrue, nat_lt, refl, sym, ap, ◌∙◌}
use Rattle.std.proofs.Common.{if◌then◌else◌}
use Rattle.std.proofs.lemmas.List.{take-take, length-take, nil_from_length}
use Rattle.media_store.specs.Failures.{risen}
use Rattle.media_tape.specs.Items.{Item, Record, Filemark}
use Rattle.media_tape.specs.Tape.{TapeState, read_told, first_told, first_data, passed_length, tape_read}
use Rattle.media_tape.specs.declared.outcome.Passed.{Passed}
use Rattle.media_tape.specs.declared.outcome.Passed.TheVariants as passed
use Rattle.scsi_sense.specs.Done.{Outcome, check_condition, good_with}
use Rattle.scsi_sense.specs.declared.sense.Sense.{Sense}
use Rattle.scsi_cdb.specs.Record.{most_record}
use Rattle.scsi_cdb.specs.declared.tape.IncorrectLength.{IncorrectLength}
use Rattle.scsi_cdb.specs.declared.tape.TapeCommand.TheVariants.{Read}
use Rattle.scsi_tape.specs.TapeSense.{unrecovered_read, incorrect_length}
use Rattle.scsi_tape.specs.State.{TapeUnitState}
use Rattle.scsi_tape.specs.Commands.{read_outcome, given_with, tape_outcome, is_told, length_difference}
use Rattle.scsi_tape.specs.CameOut.{IsTapeDone}
use Rattle.scsi_tape.proofs.Came.{with_tape, read_answered, read_fails}
use Rattle.scsi_tape.proofs.Records.{IsSeen, some_byte, first_same, not_zero, read_none}

-- bytes of a record that was read, no more than were asked for
pub told_given : (asked : ℕ) (incorrect : IncorrectLength) (got bytes : List ℕ) (seen told : Passed) → told ≡ seen → got ≡ take asked bytes
    → read_outcome asked incorrect told got ≡ read_outcome asked incorrect seen bytes
told_given asked incorrect got bytes seen passed.Nothing same is = rw (← same) refl
told_given asked incorrect got bytes seen (passed.Record n) same is =
    rw (← same, is, take-take asked asked bytes (omega arith)) refl
told_given asked incorrect got bytes seen passed.Filemark same is = rw (← same) refl
told_given asked incorrect got bytes seen passed.EndOfData same is = rw (← same) refl

-- what is told of other bytes, as many
by_told : (told : Bool) (sense : Sense) (one other : List ℕ) → length one ≡ length other
    → (if told then given_with sense one else good_with one)
    ≡ record (if told then given_with sense other else good_with other) { given = (if told then given_with sense one else good_with one).given }
by_told true sense one other long = rw long refl
by_told false sense one other long = rw long refl

given_by : (told : Bool) (sense : Sense) (bytes : List ℕ) → (if told then given_with sense bytes else good_with bytes).given ≡ bytes
given_by true sense bytes = refl
given_by false sense bytes = refl

pub seen_of : (asked : ℕ) (incorrect : IncorrectLength) (got : List ℕ) (items : List Item) → length got ≡ min asked (passed_length (first_told items))
    → IsSeen (read_outcome asked incorrect (first_told items) got) (read_outcome asked incorrect (first_told items) (first_data items))
seen_of asked incorrect got [] long = record { is = refl; long = refl }
seen_of asked incorrect got (Filemark ∷ items) long = record { is = refl; long = refl }
seen_of asked incorrect got (Record bytes ∷ items) long =
    let one = take asked got in
    let other = take asked bytes in
    let same : length one ≡ length other = omega (arith, long, length-take asked got, length-take asked bytes) in
    let told = is_told incorrect asked (length bytes) in
    let sense = incorrect_length (length_difference asked (length bytes)) in
    record {
      is = by_told told sense one other same;
      long = ap length (given_by told sense one) ∙ same ∙ sym (ap length (given_by told sense other));
    }

passed_data : (items : List Item) → passed_length (first_told items) ≡ length (first_data items)
passed_data [] = refl
passed_data (Record bytes ∷ items) = refl
passed_data (Filemark ∷ items) = refl

-- none were read where there are none
none_taken : (asked : ℕ) (got : List ℕ) (items : List Item) → length got ≡ min asked (passed_length (first_told items)) → first_data items ≡ []
    → got ≡ take asked (first_data items)
none_taken asked got items long none =
    let there = passed_data items ∙ ap length none in
    nil_from_length got (omega (arith, long, there))
    ∙ sym (nil_from_length (take asked (first_data items)) (omega (arith, length-take asked (first_data items), ap length none)))

zero_not : (asked : ℕ) → asked ≢ 0 → (asked == 0) ≡ false
zero_not zero any = absurd (any refl)
zero_not (suc asked) any = not_zero asked

module _ (asked : ℕ) (incorrect : IncorrectLength) (bytes : List ℕ) (unit : TapeUnitState) (new : TapeState) where
  pub read_done : (seen : Passed) (got : List ℕ) (done : Outcome) → asked ≢ 0
      → new ≡ record (tape_read asked unit.tape) { honest = new.honest }
      → (IsTrue new.honest → IsTrue unit.tape.honest)
      → seen ≡ read_told asked unit.tape
      → length got ≡ min asked (passed_length seen)
      → (IsTrue new.honest → got ≡ take asked (first_data unit.tape.after))
      → (IsTrue unit.tape.steady → IsTrue unit.tape.honest → new.honest ≡ unit.tape.honest)
      → (first_data unit.tape.after ≡ [] → new.honest ≡ unit.tape.honest)
      → done ≡ read_outcome asked incorrect seen got
      → length done.given ≤ most_record
      → IsTapeDone (Read asked incorrect) bytes unit (with_tape unit new) done
  read_done seen got done any left back told long given sure unread outcome few =
      let some : nat_lt 0 asked ≡ true = some_byte asked any in
      let none : (asked == 0) ≡ false = zero_not asked any in
      let there = first_data unit.tape.after in
      let first = told ∙ first_same asked unit.tape any in
      let defined = read_outcome asked incorrect (first_told unit.tape.after) there in
      let as_told : tape_outcome (Read asked incorrect) bytes unit.tape ≡ defined =
      ap (λ (p : Passed). read_outcome asked incorrect p there) (first_same asked unit.tape any) in
      let outcome_is : done ≡ read_outcome asked incorrect (first_told unit.tape.after) got =
      outcome ∙ ap (λ (p : Passed). read_outcome asked incorrect p got) first in
      let long_is = long ∙ ap (λ (p : Passed). min asked (passed_length p)) first in
      let is_seen : IsSeen done defined = rw outcome_is (seen_of asked incorrect got unit.tape.after long_is) in
      let exactly : got ≡ take asked there → done ≡ tape_outcome (Read asked incorrect) bytes unit.tape = λ is.
      outcome_is ∙ told_given asked incorrect got there (first_told unit.tape.after) (first_told unit.tape.after) refl is ∙ sym as_told in
      let nothing : nat_lt 0 (length there) ≡ false → there ≡ [] = λ no_read. nil_from_length there (read_none (length there) no_read) in
      let kept : nat_lt 0 (length there) ≡ false → new.honest ≡ unit.tape.honest = λ no_read. unread (nothing no_read) in
      let untold : nat_lt 0 (length there) ≡ false → done ≡ tape_outcome (Read asked incorrect) bytes unit.tape = λ no_read.
      exactly (none_taken asked got unit.tape.after long_is (nothing no_read)) in
      read_answered (Read asked incorrect) bytes unit new done
      (rw some refl) (rw some kept) back (rw none refl) left (rw some untold)
      (λ honest. exactly (given honest))
      (is_seen.is ∙ ap (λ (o : Outcome). record o { given = done.given }) (sym as_told))
      (is_seen.long ∙ ap (λ (o : Outcome). length o.given) (sym as_told)) sure few

  pub read_failed : asked ≢ 0
      → new ≡ record unit.tape { failures = risen unit.tape.failures; honest = new.honest }
      → (IsTrue new.honest → IsTrue unit.tape.honest)
      → (IsTrue unit.tape.steady → IsTrue unit.tape.honest → ⊥)
      → (first_data unit.tape.after ≡ [] → ⊥)
      → IsTapeDone (Read asked incorrect) bytes unit (with_tape unit new) (check_condition unrecovered_read)
  read_failed any same back sure unread =
      let there = first_data unit.tape.after in
      let reads = some_byte (length there) (λ none. unread (nil_from_length there none)) in
      read_fails (Read asked incorrect) bytes unit new (rw (some_byte asked any) reads) same back sure

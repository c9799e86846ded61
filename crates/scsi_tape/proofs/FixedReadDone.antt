-- How READ of some fixed blocks came out.
use Rattle.std.proofs.Common.{◌≡◌, ◌≢◌, ℕ, zero, suc, ◌-◌, ◌*◌, ◌==◌, ◌≤◌, List, [], ◌∷◌, length, Bool, true, false, IsTrue, nat_lt, refl, sym, ap, ◌∙◌, arith, suc-mul}
use Rattle.std.proofs.lemmas.Bool.{eqb-true}
use Rattle.std.proofs.lemmas.List.{append-nil, length-append}
use Rattle.media_store.specs.Failures.{risen}
use Rattle.media_tape.specs.Items.{Item, Record, Filemark}
use Rattle.media_tape.specs.Tape.{TapeState}
use Rattle.media_tape.specs.Fixed.{fixed, fixed_told, fixed_data, tape_read_fixed}
use Rattle.tape_index.specs.declared.outcome.FixedEnd.{FixedEnd}
use Rattle.tape_index.specs.declared.outcome.FixedEnd.TheVariants as ended
use Rattle.tape_index.specs.declared.outcome.FixedRead.{FixedRead}
use Rattle.scsi_sense.specs.Done.{Outcome, good, check_condition}
use Rattle.scsi_cdb.specs.Record.{most_record}
use Rattle.scsi_cdb.specs.FixedBlocks.{Blocks}
use Rattle.scsi_cdb.specs.declared.tape.TapeCommand.TheVariants.{ReadFixed}
use Rattle.scsi_tape.specs.TapeSense.{unrecovered_read}
use Rattle.scsi_tape.specs.State.{TapeUnitState}
use Rattle.scsi_tape.specs.Commands.{fixed_ended, fixed_outcome}
use Rattle.scsi_tape.specs.CameOut.{IsTapeDone}
use Rattle.scsi_tape.proofs.Came.{with_tape, as_defined, read_answered, read_fails}
use Rattle.scsi_tape.proofs.Records.{IsSeen, some_byte, read_none}

by_block : (block_length count : ℕ) (bytes : List ℕ) (items : List Item) (same : Bool) → (length bytes == block_length) ≡ same
    → length (fixed count block_length items).bytes ≡ (fixed count block_length items).given * block_length
    → length (fixed (suc count) block_length (Record bytes ∷ items)).bytes
    ≡ (fixed (suc count) block_length (Record bytes ∷ items)).given * block_length
by_block block_length count bytes items false is long = rw is (omega arith)
by_block block_length count bytes items true is long =
    let rest = fixed count block_length items in
    rw is (length-append bytes rest.bytes ∙ omega (arith, eqb-true (length bytes) block_length is, long, suc-mul rest.given block_length))

-- as many bytes as the blocks have
length-fixed : (count block_length : ℕ) (items : List Item)
    → length (fixed count block_length items).bytes ≡ (fixed count block_length items).given * block_length
length-fixed zero block_length items = omega arith
length-fixed (suc count) block_length [] = omega arith
length-fixed (suc count) block_length (Filemark ∷ items) = omega arith
length-fixed (suc count) block_length (Record bytes ∷ items) =
    by_block block_length count bytes items (length bytes == block_length) refl (length-fixed count block_length items)

-- what is told of other bytes, as many
seen_of : (left : ℕ) (end : FixedEnd) (one other : List ℕ) → length one ≡ length other → IsSeen (fixed_ended left end one) (fixed_ended left end other)
seen_of left ended.Whole one other long = record { is = rw long refl; long = long }
seen_of left ended.Filemark one other long = record { is = rw long refl; long = long }
seen_of left ended.EndOfData one other long = record { is = rw long refl; long = long }
seen_of left (ended.Length n) one other long = record { is = rw long refl; long = long }

-- one of no block does nothing
pub none_read : (blocks : Blocks) (bytes : List ℕ) (unit : TapeUnitState) → blocks.count ≡ 0 → IsTapeDone (ReadFixed blocks) bytes unit unit good
none_read blocks bytes unit none =
    as_defined (ReadFixed blocks) bytes unit unit.tape good (rw (none, append-nil unit.tape.before) refl) (rw none refl)

no_bytes : (xs ys : List ℕ) → length xs ≡ length ys → length ys ≡ 0 → xs ≡ ys
no_bytes [] [] long none = refl
no_bytes [] (y ∷ ys) long none = absurd (omega (arith, none))
no_bytes (x ∷ xs) ys long none = absurd (omega (arith, long, none))

module _ (blocks : Blocks) (bytes : List ℕ) (unit : TapeUnitState) (new : TapeState) (any : blocks.count ≢ 0) where
  some : nat_lt 0 blocks.count ≡ true
  some = some_byte blocks.count any

  pub blocks_read : (read : FixedRead) (got : List ℕ) (done : Outcome)
      → new ≡ record (tape_read_fixed blocks.count blocks.block_length unit.tape) { honest = new.honest }
      → (IsTrue new.honest → IsTrue unit.tape.honest)
      → read ≡ fixed_told blocks.count blocks.block_length unit.tape
      → length got ≡ read.given * blocks.block_length
      → (IsTrue new.honest → got ≡ fixed_data blocks.count blocks.block_length unit.tape)
      → (IsTrue unit.tape.steady → IsTrue unit.tape.honest → new.honest ≡ unit.tape.honest)
      → ((fixed_told blocks.count blocks.block_length unit.tape).given ≡ 0 → new.honest ≡ unit.tape.honest)
      → done ≡ fixed_outcome blocks.count read got
      → length done.given ≤ most_record
      → IsTapeDone (ReadFixed blocks) bytes unit (with_tape unit new) done
  blocks_read read got done left back told long given sure unread outcome few =
      let read_is = fixed_told blocks.count blocks.block_length unit.tape in
      let there = fixed_data blocks.count blocks.block_length unit.tape in
      let many = length-fixed blocks.count blocks.block_length unit.tape.after in
      let long_is : length got ≡ length there = long ∙ ap (λ (r : FixedRead). r.given * blocks.block_length) told ∙ sym many in
      let outcome_is : done ≡ fixed_outcome blocks.count read_is got = outcome ∙ ap (λ (r : FixedRead). fixed_outcome blocks.count r got) told in
      let is_seen : IsSeen done (fixed_outcome blocks.count read_is there) =
      rw outcome_is (seen_of (blocks.count - read_is.given) read_is.ended got there long_is) in
      let exactly : got ≡ there → done ≡ fixed_outcome blocks.count read_is there = λ is.
      outcome_is ∙ ap (λ (xs : List ℕ). fixed_outcome blocks.count read_is xs) is in
      let kept : nat_lt 0 read_is.given ≡ false → new.honest ≡ unit.tape.honest = λ no_read. unread (read_none read_is.given no_read) in
      let untold : nat_lt 0 read_is.given ≡ false → done ≡ fixed_outcome blocks.count read_is there = λ no_read.
      let none : length there ≡ 0 = many ∙ ap (λ (n : ℕ). n * blocks.block_length) (read_none read_is.given no_read) ∙ omega arith in
      exactly (no_bytes got there long_is none) in
      read_answered (ReadFixed blocks) bytes unit new done
      (rw some refl) (rw some kept) back refl left (rw some untold)
      (λ honest. exactly (given honest)) is_seen.is is_seen.long sure few

  pub read_blocks_failed : new ≡ record unit.tape { failures = risen unit.tape.failures; honest = new.honest }
      → (IsTrue new.honest → IsTrue unit.tape.honest)
      → (IsTrue unit.tape.steady → IsTrue unit.tape.honest → ⊥)
      → ((fixed_told blocks.count blocks.block_length unit.tape).given ≡ 0 → ⊥)
      → IsTapeDone (ReadFixed blocks) bytes unit (with_tape unit new) (check_condition unrecovered_read)
  read_blocks_failed same back sure unread =
      let reads = some_byte (fixed_told blocks.count blocks.block_length unit.tape).given unread in
      read_fails (ReadFixed blocks) bytes unit new (rw some reads) same back sure

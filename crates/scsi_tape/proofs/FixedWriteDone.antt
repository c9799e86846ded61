-- How WRITE of some fixed blocks came out.
use Rattle.std.proofs.Common.{◌≡◌, ◌≢◌, ℕ, zero, suc, ◌+◌, ◌-◌, ◌*◌, ◌/◌, ◌==◌, ◌≤◌, ◌<◌, nat_lt, List, [], length, take, Bool, true, false, IsTrue}
use Rattle.std.proofs.Common.{if◌then◌else◌, refl, ap, ◌∙◌, arith, mul-pos, ne_of_gt, pos_of_ne-zero, suc-mul}
use Rattle.std.proofs.Math.Nat.{div-mul-le_self}
use Rattle.std.proofs.lemmas.Bool.{ne_eqb, lt-ltb, leb-false}
use Rattle.std.proofs.lemmas.List.{length-take}
use Rattle.media_store.specs.Failures.{risen}
use Rattle.media_tape.specs.Items.{Item, size_of}
use Rattle.media_tape.specs.Tape.{TapeState, IsSizedAs, wrote, lost, erased}
use Rattle.media_tape.specs.Fixed.{fitting, blocks_of, fixed_written_told, tape_written_fixed, fixed_synced}
use Rattle.media_tape.specs.declared.outcome.FixedWritten.{FixedWritten}
use Rattle.media_tape.specs.declared.outcome.FixedWritten.TheVariants as fixed
use Rattle.scsi_sense.specs.Done.{Outcome, check_condition}
use Rattle.scsi_cdb.specs.FixedBlocks.{Blocks, bytes_of}
use Rattle.scsi_cdb.specs.declared.tape.TapeCommand.TheVariants.{WriteFixed}
use Rattle.scsi_tape.specs.TapeSense.{write_error}
use Rattle.scsi_tape.specs.State.{TapeUnitState}
use Rattle.scsi_tape.specs.Commands.{fixed_write_outcome}
use Rattle.scsi_tape.specs.CameOut.{IsTapeDone, can_fit, standing_of}
use Rattle.scsi_tape.proofs.Came.{with_tape, unsynced_rest, write_answered, write_fails, torn_items, torn_sizes}
use Rattle.scsi_tape.proofs.Records.{some_byte, not_zero}
use Rattle.scsi_tape.proofs.WriteDone.{fits_so}

by_quotient : (a b many : ℕ) → many * b ≤ a → a < b → many ≡ 0
by_quotient a b zero most less = refl
by_quotient a b (suc many) most less = absurd (omega (arith, most, less, suc-mul many b))

-- none fits where one does not
none_fits : (count block_length : ℕ) (tape : TapeState) → can_fit (block_length + 8) tape ≡ false → fitting count block_length tape ≡ 0
none_fits count block_length tape none =
    let room : ℕ = tape.capacity - size_of tape.before in
    let less = leb-false (size_of tape.before + (block_length + 8)) tape.capacity none in
    let zero_fit = by_quotient room (block_length + 8) (room / (block_length + 8)) (div-mul-le_self room (block_length + 8)) (omega (arith, less)) in
    omega (arith, zero_fit)

abbrev told_by : Bool → Bool → ℕ → FixedWritten
told_by part early fits = if part then fixed.Part fits else if early then fixed.Early else fixed.Whole

some_synced : (part early before : Bool) (fits : ℕ) → fixed_synced (told_by part early (suc fits)) before ≡ false
some_synced true early before fits = rw (not_zero fits) refl
some_synced false true before fits = refl
some_synced false false before fits = refl

-- but for the items and what stands after them
by_fits : (count fits : ℕ) (early : Bool) (others before after : List Item) (tail : List ℕ) (tape : TapeState) → 0 < count
    → record tape { before = before; after = after; tail = tail; synced = fixed_synced (told_by (nat_lt fits count) early fits) tape.synced }
    ≡ record (if fits == 0 then tape else wrote others tape) { before = before; after = after; tail = tail; honest = tape.honest }
by_fits count zero early others before after tail tape some = rw (lt-ltb 0 count some) refl
by_fits count (suc fits) early others before after tail tape some =
    rw (some_synced (nat_lt (suc fits) count) early tape.synced fits, not_zero fits) refl

module _ (blocks : Blocks) (bytes : List ℕ) (unit : TapeUnitState) (new : TapeState) (any : blocks.count ≢ 0) (long : 0 < blocks.block_length) where
  positive : 0 < blocks.count
  positive = pos_of_ne-zero any

  some : nat_lt 0 blocks.count ≡ true
  some = some_byte blocks.count any

  no_none : (blocks.count * blocks.block_length == 0) ≡ false
  no_none = ne_eqb (blocks.count * blocks.block_length) 0 (ne_of_gt (mul-pos positive long))

  pub blocks_done : (ended : FixedWritten) (done : Outcome)
      → new.honest ≡ unit.tape.honest
      → (IsTrue unit.tape.honest → new ≡ tape_written_fixed blocks.count blocks.block_length (take (bytes_of blocks) bytes) unit.tape)
      → IsSizedAs (tape_written_fixed blocks.count blocks.block_length (take (bytes_of blocks) bytes) unit.tape) new
      → ended ≡ fixed_written_told blocks.count blocks.block_length unit.tape
      → (ended ≡ fixed.Part 0 → new ≡ unit.tape)
      → new.synced ≡ fixed_synced ended unit.tape.synced
      → new ≡ record unit.tape { before = new.before; after = new.after; tail = new.tail; synced = new.synced }
      → done ≡ fixed_write_outcome blocks ended → done.given ≡ []
      → IsTapeDone (WriteFixed blocks) bytes unit (with_tape unit new) done
  blocks_done ended done honest tape sized told none_written synced rest outcome given =
      let count = blocks.count in
      let block_length = blocks.block_length in
      let fits = fitting count block_length unit.tape in
      let taken = take (bytes_of blocks) bytes in
      let early = nat_lt unit.tape.early_mark (size_of unit.tape.before + count * (block_length + 8)) in
      let others = blocks_of fits block_length taken in
      let told_so : ended ≡ told_by (nat_lt fits count) early fits = rw no_none at told in
      let as_it_was : can_fit (block_length + 8) unit.tape ≡ false → new ≡ tape_written_fixed count block_length taken unit.tape = λ no_room.
      let none = none_fits count block_length unit.tape no_room in
      let part : ended ≡ fixed.Part 0 = told_so ∙ rw (none, lt-ltb 0 count positive) refl in
      none_written part ∙ rw (no_none, none) refl in
      let synced_is = synced ∙ ap (λ (t : FixedWritten). fixed_synced t unit.tape.synced) told_so in
      let rest_is = rest
      ∙ ap (λ (s : Bool). record unit.tape { before = new.before; after = new.after; tail = new.tail; synced = s }) synced_is
      ∙ by_fits count fits early others new.before new.after new.tail unit.tape positive in
      write_answered (WriteFixed blocks) bytes unit new done honest tape (rw some as_it_was) sized (rw no_none rest_is)
      (outcome ∙ ap (fixed_write_outcome blocks) told) given

  pub blocks_failed :
      (IsTrue unit.tape.honest → new ≡ lost new.tail false unit.tape)
      → IsSizedAs (erased unit.tape) new
      → new.synced ≡ false
      → size_of unit.tape.before + (blocks.block_length + 8) ≤ unit.tape.capacity
      → new ≡ record unit.tape { before = new.before; after = new.after; tail = new.tail; synced = new.synced; failures = risen unit.tape.failures }
      → (IsTrue unit.tape.steady → IsTrue unit.tape.honest → unit.tape.capacity ≤ unit.tape.reach → ⊥)
      → IsTapeDone (WriteFixed blocks) bytes unit (record (with_tape unit new) { is_working = false }) (check_condition write_error)
  blocks_failed failed kept unsynced fits rest sure =
      let can = fits_so (blocks.block_length + 8) unit.tape fits in
      let unsynced_so = unsynced_rest unit new rest unsynced in
      write_fails (WriteFixed blocks) bytes unit (standing_of new) new (rw (some, can) refl) (torn_sizes unit new failed kept unsynced_so)
      (rw (some, can) (torn_items unit new failed kept unsynced_so)) sure

-- some bytes are written
pub some_taken : (blocks : Blocks) (bytes : List ℕ) → blocks.count ≢ 0 → 0 < blocks.block_length → bytes_of blocks ≤ length bytes
    → take (bytes_of blocks) bytes ≢ []
some_taken blocks bytes any long enough none =
    let positive : 0 < blocks.count = pos_of_ne-zero any in
    let some : 0 < bytes_of blocks = mul-pos positive long in
    omega (arith, some, enough, length-take (bytes_of blocks) bytes, ap length none)

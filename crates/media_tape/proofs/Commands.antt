-- What commands are where nothing is refused.
use Rattle.std.proofs.Common.{◌≡◌, ℕ, zero, suc, ◌+◌, ◌-◌, ◌*◌, ◌/◌, ◌≤◌, ◌<◌, min, nat_lt, ◌==◌, Bool, true, false, List, [], ◌∷◌, length}
use Rattle.std.proofs.Common.{inl, inr, refl, ap, ◌∙◌, arith, rules, if◌then◌else◌}
use Rattle.std.proofs.Math.Nat.{mul-le-mul_right, div-mul-le_self, eq-or-lt_of_le}
use Rattle.std.proofs.lemmas.Bool.{lt-ltb, le-ltb, ne_eqb}
use Rattle.media_tape.specs.Items.{Item, Record, size_of, item_of, items_of}
use Rattle.media_tape.specs.declared.outcome.FixedWritten.TheVariants as fixed_written
use Rattle.media_tape.specs.declared.outcome.Written.{Written}
use Rattle.media_tape.specs.declared.outcome.Written.TheVariants as written
use Rattle.media_tape.specs.declared.write.Objects.{Objects}
use Rattle.media_tape.specs.declared.write.Objects.TheVariants as object
use Rattle.media_tape.specs.Tape.{TapeState, size_told, write_told, wrote, wrote_if_told, tape_written}
use Rattle.media_tape.specs.Tape.{first_told, first_data, length_told}
use Rattle.media_tape.specs.Fixed.{fitting, fixed_written_told, blocks_of, tape_written_fixed}
use Rattle.media_tape.specs.Writing.{bytes_of, is_synced, put_synced, put_if_told, part_told}

-- the item that has these bytes, where it is passed
pub first_told-item : (bytes : List ℕ) (items : List Item) → length_told (length bytes) ≡ first_told (item_of bytes ∷ items)
first_told-item [] items = refl
first_told-item (byte ∷ bytes) items =
    let some : (length (byte ∷ bytes) == 0) ≡ false = search rules in
    rw some refl

pub first_data-item : (bytes : List ℕ) (items : List Item) → first_data (item_of bytes ∷ items) ≡ bytes
first_data-item [] items = refl
first_data-item (byte ∷ bytes) items = refl

-- ---- objects that are written

pub refused_told : (more : ℕ) (tape : TapeState) → tape.capacity < size_of tape.before + more → size_told more tape ≡ written.Refused
refused_told more tape less = rw (lt-ltb tape.capacity (size_of tape.before + more) less) refl

pub put_refused : (objects : Objects) (before : Bool) (tape : TapeState)
    → (put_if_told objects written.Refused tape ≡ tape) × (put_synced objects written.Refused before ≡ before)
put_refused (object.Records spelled count size) before tape = (refl, refl)
put_refused (object.Filemarks count) before tape = (refl, refl)

pub fitting_told : (more : ℕ) (tape : TapeState) → size_of tape.before + more ≤ tape.capacity
    → size_told more tape ≡ (if nat_lt tape.early_mark (size_of tape.before + more) then written.Early else written.Whole)
fitting_told more tape fits = rw (le-ltb tape.capacity (size_of tape.before + more) fits) refl

pub put_fitting : (objects : Objects) (early before : Bool) (tape : TapeState)
    → (put_if_told objects (if early then written.Early else written.Whole) tape
    ≡ record (wrote (items_of (bytes_of objects)) tape) { synced = is_synced objects })
    × (put_synced objects (if early then written.Early else written.Whole) before ≡ is_synced objects)
put_fitting (object.Records spelled count size) true before tape = (refl, refl)
put_fitting (object.Records spelled count size) false before tape = (refl, refl)
put_fitting (object.Filemarks count) true before tape = (refl, refl)
put_fitting (object.Filemarks count) false before tape = (refl, refl)

-- a write of some bytes
pub write_told-is : (bytes : List ℕ) (tape : TapeState) → 0 < length bytes → write_told bytes tape ≡ size_told (length bytes + 8) tape
write_told-is [] tape some = absurd (omega arith)
write_told-is (byte ∷ bytes) tape some = refl

pub tape_written-is : (bytes : List ℕ) (tape : TapeState) → 0 < length bytes
    → tape_written bytes tape ≡ wrote_if_told (size_told (length bytes + 8) tape) (Record bytes ∷ []) tape
tape_written-is [] tape some = absurd (omega arith)
tape_written-is (byte ∷ bytes) tape some = refl

-- ---- blocks that are written

-- where there is a byte, there are blocks, and none is longer than all
pub record AreSome (count block_length : ℕ) : Type 0 where
  pub some_count : 0 < count
  pub some_length : 0 < block_length
  pub short : block_length ≤ count * block_length

pub are_some : (count block_length : ℕ) → 0 < count * block_length → AreSome count block_length
are_some zero block_length some = absurd (omega arith)
are_some (suc count) zero some = absurd (omega arith)
are_some (suc count) (suc block_length) some =
    let short : 1 * suc block_length ≤ suc count * suc block_length = mul-le-mul_right (suc block_length) (omega arith) in
    record { some_count = omega arith; some_length = omega arith; short = omega (arith, short) }

-- some fit
pub record AreFitting (count block_length fits : ℕ) (tape : TapeState) : Type 0 where
  pub is : fits ≡ fitting count block_length tape
  pub within : size_of tape.before + fits * (block_length + 8) ≤ tape.capacity
  pub some : 0 < fits

pub are_fitting : (count block_length fits : ℕ) (tape : TapeState) → fits ≡ min ((tape.capacity - size_of tape.before) / (block_length + 8)) count
    → size_of tape.before ≤ tape.capacity → 0 < fits → AreFitting count block_length fits tape
are_fitting count block_length fits tape is before some =
    let room : ℕ = tape.capacity - size_of tape.before in
    let most : fits * (block_length + 8) ≤ room / (block_length + 8) * (block_length + 8) = mul-le-mul_right (block_length + 8) (omega arith) in
    record { is = omega arith; within = omega (arith, most, div-mul-le_self room (block_length + 8)); some = some }

no_byte : (count block_length : ℕ) → 0 < count * block_length → (count * block_length == 0) ≡ false
no_byte count block_length some = ne_eqb (count * block_length) 0 (λ e. omega arith)

part_is : (early : Bool) (fits count : ℕ) → part_told (if early then written.Early else written.Whole) fits count
    ≡ (if nat_lt fits count then fixed_written.Part fits else if early then fixed_written.Early else fixed_written.Whole)
part_is true fits count = refl
part_is false fits count = refl

-- where not all fit, the early mark tells nothing
early_same : (tape : TapeState) (count fits size : ℕ) → fits ≤ count
    → (if nat_lt fits count then fixed_written.Part fits
    else if nat_lt tape.early_mark (size_of tape.before + fits * size) then fixed_written.Early else fixed_written.Whole)
    ≡ (if nat_lt fits count then fixed_written.Part fits
    else if nat_lt tape.early_mark (size_of tape.before + count * size) then fixed_written.Early else fixed_written.Whole)
early_same tape count fits size few = elim (eq-or-lt_of_le few) [
  | inl same ↦ ap (λ n. if nat_lt fits count then fixed_written.Part fits
      else if nat_lt tape.early_mark (size_of tape.before + n * size) then fixed_written.Early else fixed_written.Whole) same
  | inr less ↦ rw (lt-ltb fits count less) refl
]

pub fitting_told_fixed : (count block_length fits : ℕ) (tape : TapeState) → 0 < count * block_length → AreFitting count block_length fits tape
    → part_told (size_told (fits * (block_length + 8)) tape) fits count ≡ fixed_written_told count block_length tape
fitting_told_fixed count block_length fits tape some are =
    let size : ℕ = block_length + 8 in
    let early = nat_lt tape.early_mark (size_of tape.before + fits * size) in
    ap (λ (t : Written). part_told t fits count) (fitting_told (fits * size) tape are.within) ∙ part_is early fits count
    ∙ early_same tape count fits size (omega (arith, are.is))
    ∙ rw (no_byte count block_length some, ← are.is) refl

pub fitting_tape_fixed : (count block_length fits : ℕ) (bytes : List ℕ) (tape : TapeState) → 0 < count * block_length
    → AreFitting count block_length fits tape
    → wrote_if_told (size_told (fits * (block_length + 8)) tape) (blocks_of fits block_length bytes) tape
    ≡ tape_written_fixed count block_length bytes tape
fitting_tape_fixed count block_length fits bytes tape some are =
    let no_none : (fits == 0) ≡ false = ne_eqb fits 0 (λ e. omega (arith, are.some)) in
    rw (fitting_told (fits * (block_length + 8)) tape are.within, no_byte count block_length some, ← are.is, no_none)
    (wrote_early (nat_lt tape.early_mark (size_of tape.before + fits * (block_length + 8))) (blocks_of fits block_length bytes) tape)
  where
    wrote_early : (early : Bool) (others : List Item) (tape : TapeState)
        → wrote_if_told (if early then written.Early else written.Whole) others tape ≡ wrote others tape
    wrote_early true others tape = refl
    wrote_early false others tape = refl

-- none fits
pub none_told : (count block_length : ℕ) (tape : TapeState) → 0 < count * block_length → 0 ≡ fitting count block_length tape
    → fixed_written.Part 0 ≡ fixed_written_told count block_length tape
none_told count block_length tape some none =
    rw (no_byte count block_length some, ← none, lt-ltb 0 count (are_some count block_length some).some_count) refl

pub none_tape : (count block_length : ℕ) (bytes : List ℕ) (tape : TapeState) → 0 < count * block_length → 0 ≡ fitting count block_length tape
    → tape ≡ tape_written_fixed count block_length bytes tape
none_tape count block_length bytes tape some none = rw (no_byte count block_length some, ← none) refl

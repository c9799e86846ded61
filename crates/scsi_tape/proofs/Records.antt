-- The bytes of a record that was read, and an outcome that has them.
use Rattle.std.proofs.Common.{◌≡◌, ◌≢◌, ℕ, zero, suc, ◌==◌, nat_lt, length, true, false, refl, arith, rules}
use Rattle.std.proofs.lemmas.Bool.{lt-ltb, ltb-false}
use Rattle.media_tape.specs.Tape.{TapeState, first_told, read_told}
use Rattle.scsi_sense.specs.Done.{Outcome}

pub not_zero : (n : ℕ) → (suc n == 0) ≡ false
not_zero n = search rules

pub first_same : (asked : ℕ) (tape : TapeState) → asked ≢ 0 → read_told asked tape ≡ first_told tape.after
first_same zero tape any = absurd (any refl)
first_same (suc asked) tape any = rw (not_zero asked) refl

pub some_byte : (count : ℕ) → count ≢ 0 → nat_lt 0 count ≡ true
some_byte zero none = absurd (none refl)
some_byte (suc count) none = lt-ltb 0 (suc count) (omega arith)

pub read_none : (many : ℕ) → nat_lt 0 many ≡ false → many ≡ 0
read_none many none = omega (arith, ltb-false 0 many none)

-- as another outcome, but for its bytes, which are as many
pub record IsSeen (done defined : Outcome) : Type 0 where
  pub is : done ≡ record defined { given = done.given }
  pub long : length done.given ≡ length defined.given

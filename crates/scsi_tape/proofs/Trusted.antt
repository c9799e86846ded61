-- What follows from how a command to a tape came out.
use Rattle.std.proofs.Common.{◌≡◌, ℕ, zero, suc, ◌*◌, List, Bool, true, ◌&&◌, IsTrue, Option, Some, None, refl, ap, subst, ◌∙◌, inl, inr, arith}
use Rattle.std.proofs.lemmas.Bool.{false≢true, and_parts}
use Rattle.media_tape.specs.Tape.{TapeState, size_told, tape_marked, marks_told}
use Rattle.media_tape.specs.declared.outcome.Written.{Written}
use Rattle.media_tape.specs.declared.outcome.Written.TheVariants as written
use Rattle.scsi_sense.specs.Codes.{key_of}
use Rattle.scsi_sense.specs.Done.{Outcome, check_condition}
use Rattle.scsi_sense.specs.declared.sense.Sense.{Sense}
use Rattle.scsi_cdb.specs.declared.tape.TapeCommand.{TapeCommand}
use Rattle.scsi_cdb.specs.declared.tape.TapeCommand.TheVariants.{WriteFilemarks}
use Rattle.scsi_tape.proofs.Records.{not_zero}
use Rattle.scsi_tape.specs.TapeSense.{write_error, unrecovered_read}
use Rattle.scsi_tape.specs.State.{TapeUnitState}
use Rattle.scsi_tape.specs.Commands.{marks_outcome}
use Rattle.scsi_tape.specs.CameOut.{TapeCame, AsDefined, Dishonest, ReadFailed, WriteFailed, tape_after, tape_told, is_tape_possible}
use Rattle.scsi_tape.specs.CameOut.{IsTapeDone, tape_done, is_steady, can_fail, IsTrustedTape, WereMarked, AreSynced}

-- a store that is still honest, and did not fail
trusted_came : (came : TapeCame) (command : TapeCommand) (bytes : List ℕ) (old : TapeUnitState)
    → IsTrustedTape old.tape (tape_after came command bytes old).tape → came ≡ AsDefined
trusted_came AsDefined command bytes old trusted = refl
trusted_came (Dishonest given left) command bytes old trusted = absurd (false≢true trusted.honest)
trusted_came (ReadFailed honest) command bytes old trusted = absurd (omega (arith, trusted.none.same, trusted.none.known))
trusted_came (WriteFailed left) command bytes old trusted = absurd (omega (arith, trusted.none.same, trusted.none.known))

-- a tape on which no call fails
surely : (tape : TapeState) (rest : Bool) → (can_fail tape && rest) ≡ true → IsTrue tape.honest → IsTrue (is_steady tape) → ⊥
surely tape rest possible honest steady = false≢true (rw (honest, steady) at (and_parts (can_fail tape) rest possible).0)

pub sure_came : (came : TapeCame) (command : TapeCommand) (bytes : List ℕ) (tape : TapeState) → IsTrue (is_tape_possible came command bytes tape)
    → IsTrue tape.honest → IsTrue (is_steady tape) → came ≡ AsDefined
sure_came AsDefined command bytes tape possible honest steady = refl
sure_came (Dishonest given left) command bytes tape possible honest steady = absurd (surely tape _ possible honest steady)
sure_came (ReadFailed is) command bytes tape possible honest steady = absurd (surely tape _ possible honest steady)
sure_came (WriteFailed left) command bytes tape possible honest steady = absurd (surely tape _ possible honest steady)

pub sure : (command : TapeCommand) (bytes : List ℕ) (old new : TapeUnitState) (done : Outcome) → IsTapeDone command bytes old new done
    → IsTrue old.tape.honest → IsTrue (is_steady old.tape) → (new, done) ≡ tape_done command bytes old
sure command bytes old new done came honest steady =
    let is = sure_came came.came command bytes old.tape came.possible honest steady in
    rw (came.unit, came.told, is) refl

pub exact : (command : TapeCommand) (bytes : List ℕ) (old new : TapeUnitState) (done : Outcome) → IsTapeDone command bytes old new done
    → IsTrustedTape old.tape new.tape
    → (new, done) ≡ tape_done command bytes old
exact command bytes old new done came trusted =
    let is = trusted_came came.came command bytes old
    (subst (λ (after : TapeUnitState). IsTrustedTape old.tape after.tape) came.unit trusted) in
    rw (came.unit, came.told, is) refl

-- ---- WRITE FILEMARKS

-- the sense key that is told, none where there is no sense
abbrev key_told : Option Sense → ℕ
key_told None = 0
key_told (Some sense) = key_of sense.condition

no_key : (done : Outcome) → WereMarked done → key_told done.sense ≡ 0
no_key done (inl same) = ap (λ (o : Outcome). key_told o.sense) same
no_key done (inr same) = ap (λ (o : Outcome). key_told o.sense) same

told_synced : (count : ℕ) (tape : TapeState) (told : Written) → size_told (8 * suc count) tape ≡ told
    → key_told (marks_outcome (suc count) told).sense ≡ 0 → (tape_marked (suc count) tape).synced ≡ true
told_synced count tape written.Whole is marked = rw (not_zero count, is) refl
told_synced count tape written.Early is marked = rw (not_zero count, is) refl
told_synced count tape written.Refused is marked =
    absurd (omega (arith, marked))

marks_synced : (count : ℕ) (tape : TapeState) → key_told (marks_outcome count (marks_told count tape)).sense ≡ 0
    → (tape_marked count tape).synced ≡ true
marks_synced zero tape marked = refl
marks_synced (suc count) tape marked = told_synced count tape (size_told (8 * suc count) tape) refl (rw (not_zero count) at marked)

came_synced : (came : TapeCame) (count : ℕ) (bytes : List ℕ) (old : TapeUnitState)
    → IsTrue (is_tape_possible came (WriteFilemarks count) bytes old.tape)
    → WereMarked (tape_told came (WriteFilemarks count) bytes old.tape)
    → (tape_after came (WriteFilemarks count) bytes old).tape.synced ≡ true
came_synced AsDefined count bytes old possible marked = marks_synced count old.tape (no_key _ marked)
came_synced (Dishonest given left) count bytes old possible marked = marks_synced count old.tape (no_key _ marked)
came_synced (ReadFailed is) count bytes old possible marked = absurd (omega (arith, no_key (check_condition unrecovered_read) marked))
came_synced (WriteFailed left) count bytes old possible marked = absurd (omega (arith, no_key (check_condition write_error) marked))

pub synced : (command : TapeCommand) (bytes : List ℕ) (old new : TapeUnitState) (done : Outcome) → IsTapeDone command bytes old new done
    → AreSynced command new.tape done
synced command bytes old new done came count is marked =
    let at : IsTapeDone (WriteFilemarks count) bytes old new done = subst (λ (c : TapeCommand). IsTapeDone c bytes old new done) is came in
    ap (λ (after : TapeUnitState). after.tape.synced) at.unit
    ∙ came_synced at.came count bytes old at.possible (subst WereMarked at.told marked)

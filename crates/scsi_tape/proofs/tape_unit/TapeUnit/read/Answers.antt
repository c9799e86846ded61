use Rattle.std.proofs.Common.{◌≡◌, ◌≢◌, ℕ, ◌≤◌, List, min, length, take, drop, ap, ◌∙◌, arith}
use Rattle.std.proofs.lemmas.Bool.{false≢true}
use Rattle.std.proofs.lemmas.List.{drop_at, length-drop}
use Rattle.media_tape.specs.Tape.{first_data, passed_length}
use Rattle.scsi_tape.specs.State.{TapeUnitState}
use Rattle.scsi_tape.proofs.ReadDone.{read_done, read_failed}
use Rattle.scsi_tape.proofs.tape_unit.TapeUnit.read.Goals.{in-Ok, in-Err}
use Rattle.scsi_tape.proofs.tape_unit.TapeUnit.read.Goals as goal

pub told-requires-clause-asked : goal.told-requires-clause-asked
told-requires-clause-asked g c =
    let front = rw c.requires at (ap length c.in_ok-extend_from_slice.ensures.ok) in
    let long = (rw c.in-Ok.is at c.in_ok-passed.ensures).length in
    let few : length (drop 48 c.read.new.buffer.items) ≤ c.args.asked = omega (arith, front, long, length-drop 48 c.read.new.buffer.items) in
    few

pub told-requires-clause-few : goal.told-requires-clause-few
told-requires-clause-few g c =
    let front = rw c.requires at (ap length c.in_ok-extend_from_slice.ensures.ok) in
    let told = rw c.in-Ok.is at c.in_ok-passed.ensures in
    let few : length (drop 48 c.read.new.buffer.items) ≤ 1048576 = omega (arith, front, told.length, told.fits, length-drop 48 c.read.new.buffer.items) in
    few

pub returns-clause-done : goal.returns-clause-done
returns-clause-done g c =
    let unit : TapeUnitState = record { tape = c.self.inside.tape; is_working = c.self.inside.is_working; block_length = c.self.inside.block_length } in
    let new = c.read.new.self in
    let asked = c.args.asked in
    let incorrect = c.args.incorrect_length in
    let got = drop 48 c.read.new.buffer.items in
    let items = first_data unit.tape.after in
    let front = c.extend_from_slice.new.self.items in
    let header : length front ≡ 48 = rw c.requires at (ap length c.in_ok-extend_from_slice.ensures.ok) in
    let any : asked ≢ 0 = c.if-asked-eq0.false in
    rw (← c.self.view_is) (elim c.match-branch-3.branch [
      | in-Ok w ↦ rw w.result-is (λ (bytes : List ℕ).
          let told = rw w.in-Ok.is at c.in_ok-passed.ensures in
          let long : length got ≡ min asked (passed_length w.in-Ok.passed) = length-drop 48 c.read.new.buffer.items ∙ omega (arith, told.length, header) in
          read_done asked incorrect bytes unit new w.in-Ok.passed got w.told.result any told.tape told.back told.passed long
          (λ honest. ap (λ (xs : List ℕ). drop 48 xs) (told.given honest) ∙ drop_at front (take asked items) 48 header)
          (λ steady honest. (told.succeeds steady honest).1)
          (λ none. (told.unread none).1)
          w.told.ensures.told w.told.ensures.given)
      | in-Err w ↦ rw (w.result-is, w.read_failed.ensures) (λ (bytes : List ℕ).
          let failed = rw w.in-Err.is at c.in_ok-passed.ensures in
          read_failed asked incorrect bytes unit new any failed.failed failed.back
          (λ steady honest. false≢true (failed.succeeds steady honest).0)
          (λ none. false≢true (failed.unread none).0))
    ])

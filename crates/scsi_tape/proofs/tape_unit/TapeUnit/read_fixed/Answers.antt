use Rattle.std.proofs.Common.{◌≡◌, ◌≢◌, ℕ, ◌*◌, ◌≤◌, List, length, drop, mul-le-mul_right, ap, ◌∙◌, arith}
use Rattle.std.proofs.lemmas.Bool.{false≢true}
use Rattle.std.proofs.lemmas.List.{drop_at, length-drop}
use Rattle.media_tape.specs.Fixed.{fixed_data}
use Rattle.scsi_tape.specs.State.{TapeUnitState}
use Rattle.scsi_tape.proofs.FixedReadDone.{none_read, blocks_read, read_blocks_failed}
use Rattle.scsi_tape.proofs.tape_unit.TapeUnit.read_fixed.Goals.{in-Ok, in-Err}
use Rattle.std.proofs.lemmas.Grind.{common_steps}
use Rattle.scsi_tape.proofs.tape_unit.TapeUnit.read_fixed.Goals as goal

pub told_of_blocks-requires-clause-few : goal.told_of_blocks-requires-clause-few
told_of_blocks-requires-clause-few g c =
    let front = rw c.requires at (ap length c.in_ok-extend_from_slice.ensures.ok) in
    let told = rw c.in-Ok.is at c.in_ok-done.ensures in
    let less : c.in-Ok.read.given ≤ c.args.blocks.count = rw c.count-count.ensures.value at told.few in
    let given : c.in-Ok.read.given * c.block_length.result ≤ c.args.blocks.count * c.block_length.result =
    mul-le-mul_right c.block_length.result less in
    let few : length (drop 48 c.read_fixed.new.buffer.items) ≤ 1048576 =
    omega (arith, front, told.length, given, c.block_length.ensures.few, length-drop 48 c.read_fixed.new.buffer.items) in
    few

pub returns-then-count-eq0-clause-done : goal.returns-then-count-eq0-clause-done
returns-then-count-eq0-clause-done g c bytes =
    let none : c.args.blocks.count ≡ 0 = rw c.count-count.ensures.value at c.if-count-eq0.true in
    rw c.good.ensures (none_read c.args.blocks bytes c.args.self.now none)

pub returns-clause-done : goal.returns-clause-done
returns-clause-done g c =
    let unit : TapeUnitState = record { tape = c.self.inside.tape; is_working = c.self.inside.is_working; block_length = c.self.inside.block_length } in
    let new = c.read_fixed.new.self in
    let blocks = c.args.blocks in
    let got = drop 48 c.read_fixed.new.buffer.items in
    let front = c.extend_from_slice.new.self.items in
    let header : length front ≡ 48 = rw c.requires at (ap length c.in_ok-extend_from_slice.ensures.ok) in
    let any : blocks.count ≢ 0 = rw c.count-count.ensures.value at c.if-count-eq0.false in
    rw (← c.self.view_is) (elim c.match-done.branch [
      | in-Ok w ↦ rw w.result-is (λ (bytes : List ℕ).
          let told = rw (w.in-Ok.is, c.count-count.ensures.value, c.block_length.ensures.value) at c.in_ok-done.ensures in
          let long : length got ≡ w.in-Ok.read.given * blocks.block_length =
          length-drop 48 c.read_fixed.new.buffer.items ∙ omega (arith, told.length, header) in
          blocks_read blocks bytes unit new any w.in-Ok.read got w.told_of_blocks.result told.tape told.back told.read long
          (λ honest. ap (λ (xs : List ℕ). drop 48 xs) (told.given honest)
          ∙ drop_at front (fixed_data blocks.count blocks.block_length unit.tape) 48 header)
          (λ steady honest. (told.succeeds steady honest).1)
          (λ none. (told.unread none).1)
          (rw c.count-count.ensures.value at w.told_of_blocks.ensures.told)
          w.told_of_blocks.ensures.given)
      | in-Err w ↦ rw (w.result-is, w.read_failed.ensures) (λ (bytes : List ℕ).
          let failed = rw (w.in-Err.is, c.count-count.ensures.value, c.block_length.ensures.value) at c.in_ok-done.ensures in
          read_blocks_failed blocks bytes unit new any failed.failed failed.back
          (λ steady honest. false≢true (failed.succeeds steady honest).0)
          (λ none. false≢true (failed.unread none).0))
    ])

pub returns-in_err-done : goal.returns-in_err-done
returns-in_err-done = grind (arith, common_steps)

pub returns-in_err-extend_from_slice : goal.returns-in_err-extend_from_slice
returns-in_err-extend_from_slice = grind (arith, common_steps)

pub returns-clause-err : goal.returns-clause-err
returns-clause-err = grind (arith, common_steps)

pub returns-clause-given : goal.returns-clause-given
returns-clause-given = grind (arith, common_steps)

pub returns-then-count-eq0-clause-err : goal.returns-then-count-eq0-clause-err
returns-then-count-eq0-clause-err = grind (arith, common_steps)

pub returns-then-count-eq0-clause-given : goal.returns-then-count-eq0-clause-given
returns-then-count-eq0-clause-given = grind (arith, common_steps)

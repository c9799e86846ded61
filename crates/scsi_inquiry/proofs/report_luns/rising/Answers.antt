use Rattle.std.proofs.Common.{◌≡◌, [], ◌∷◌, ◌++◌, ◌∙◌, true, false, length, sym, ap, arith, length-append}
use Rattle.std.specs.Vec.{vec_items}
use Rattle.scsi_inquiry.specs.Luns.{is_among}
use Rattle.scsi_inquiry.proofs.Rising.{found_there, found_none, found_all}
use Rattle.scsi_inquiry.proofs.report_luns.rising.Goals as goal
use Rattle.scsi_inquiry.proofs.report_luns.rising.Goals.{then-contains+in_ok-push, else-contains}

pub loop-number-preserved : goal.loop-number-preserved
loop-number-preserved c =
    elim c.if-contains.branch [
      | then-contains+in_ok-push w ↦
          let there : is_among c.args.numbers.now c.loop-number.number ≡ true = sym c.contains.ensures.value ∙ w.if-contains.true in
          let pushed : c.if-contains.list.items ≡ c.loop-number.list.items ++ c.loop-number.number ∷ [] = ap vec_items w.list-is ∙ w.in_ok-push.ensures.items in
          record {
            numbers = pushed ∙ found_there (is_among c.args.numbers.now) c.loop-number.number c.loop-number.list.items there c.loop-number.invariant.numbers;
            few = omega (arith, ap length pushed, length-append c.loop-number.list.items (c.loop-number.number ∷ []), c.loop-number.invariant.few);
          }
      | else-contains w ↦
          let none : is_among c.args.numbers.now c.loop-number.number ≡ false = sym c.contains.ensures.value ∙ w.if-contains.false in
          let same : c.if-contains.list.items ≡ c.loop-number.list.items = ap vec_items w.list-is in
          record {
            numbers = same ∙ found_none (is_among c.args.numbers.now) c.loop-number.number c.loop-number.list.items none c.loop-number.invariant.numbers;
            few = omega (arith, ap length same, c.loop-number.invariant.few);
          }
    ]

pub returns-clause-numbers : goal.returns-clause-numbers
returns-clause-numbers c = found_all c.args.numbers.now c.loop-number.list.items c.loop-number.number (omega arith) c.loop-number.invariant.numbers

use Rattle.std.proofs.Common.{◌+◌, ℕ, List, length, ap, arith, length-drop}
use Rattle.std.proofs.lemmas.List.{length-take}
use Rattle.iscsi_answers.proofs.Room.{sent_behind}
use Rattle.iscsi_answers.proofs.answers.sent_buffer.Goals as goal

pub returns-clause-data : goal.returns-clause-data
returns-clause-data c = grind (arith, sent_behind)

pub returns-clause-room : goal.returns-clause-room
returns-clause-room c =
    let items = c.into_buffer-buffer.result.items in
    omega (
      arith,
      ap (λ (xs : List ℕ). length xs) c.truncate.ensures.items,
      length-take (48 + c.args.sent) items,
      length-drop 48 items,
      ap (λ (xs : List ℕ). length xs) c.into_buffer-buffer.ensures.data,
    )

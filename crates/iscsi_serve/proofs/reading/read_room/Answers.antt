use Rattle.std.proofs.Common.{◌≡◌, ◌<◌, ◌≤◌, ◌+◌, length, inl, inr, refl, sym, ◌∙◌, subst, arith, rules}
use Rattle.iscsi_target.specs.Feeding.{LacksRoom}
use Rattle.iscsi_target.specs.Machine.{Machine}
use Rattle.iscsi_target.specs.Rooms.{filled_in}
use Rattle.iscsi_ports.specs.Log.{End, Fault}
use Rattle.iscsi_serve.specs.Progress.{IsDue}
use Rattle.iscsi_serve.proofs.ReadSteps.{reads_none, reads_piece, reads_end}
use Rattle.iscsi_serve.proofs.Rooms.{lacks_after, filled_count, filled_front, steps_to, steps_from}
use Rattle.iscsi_serve.proofs.reading.read_room.Goals as goal

pub returns-in-Bytes-eq0 : goal.returns-in-Bytes-eq0
returns-in-Bytes-eq0 g c = λ named before lacks due.
    (let lent = c.read_into.new.lent in
    let still = lacks_after c.args.c c.args.lent lent before c.args.target.now c.read_into.ensures.from c.read_into.ensures.front lacks in
    steps_to before c.return_room.new.self (c.return_room.ensures.same before still)
    (reads_none named c.args.c c.args.room due c.read_into.ensures.back
    (λ tells. rw c.in-Bytes-eq0.field-0-test at (c.in-Bytes-eq0.ensures.log tells))))

pub returns-in-Bytes : goal.returns-in-Bytes
returns-in-Bytes g c = λ named before lacks due.
    (let lent = c.read_into.new.lent in
    let count = c.in-Bytes.count in
    let piece = filled_in lent count in
    let still : LacksRoom c.args.c lent before c.args.target.now =
    lacks_after c.args.c c.args.lent lent before c.args.target.now c.read_into.ensures.from c.read_into.ensures.front lacks in
    let within : lent.from + c.args.room ≤ length lent.buffer.items =
    omega (arith, c.read_into.ensures.from, c.read_into.ensures.long, c.requires.room, c.requires.within) in
    let long : length piece ≡ count = filled_count lent count c.args.room c.in-Bytes.ensures.count within in
    let below : 0 < count = search rules in
    let some : 0 < length piece = omega (arith, below, long) in
    let fits : length piece ≤ c.args.room = omega (arith, long, c.in-Bytes.ensures.count) in
    let told = sym c.tell_starved.ensures.tells in
    let log = c.tell_starved.ensures.log in
    let front = filled_front lent count c.args.room c.in-Bytes.ensures.count in
    reads_piece named c.args.c c.args.room due (λ tells. c.read_into.ensures.back (told ∙ tells)) piece some fits
    (λ tells. rw front at (log ∙ c.in-Bytes.ensures.log (told ∙ tells))) (c.feed_room-starved.ensures before still))

-- the ports lent a buffer of theirs
pub returns-in-Lent : goal.returns-in-Lent
returns-in-Lent g c = λ named before lacks due.
    (let lent = c.read_into.new.lent in
    let still = lacks_after c.args.c c.args.lent lent before c.args.target.now c.read_into.ensures.from c.read_into.ensures.front lacks in
    let back = c.return_room-in-Lent.ensures.same before still in
    let mid = c.return_room-in-Lent.new.self in
    let now_due : IsDue named c.args.c c.args.room mid = subst (λ (m : Machine). IsDue named c.args.c c.args.room m) (sym back) due in
    let is = c.as_slice.ensures in
    let piece = c.as_slice.result.now in
    let some : 0 < length piece = rw is c.in-Lent.ensures.some in
    let fits : length piece ≤ c.args.room = rw is c.in-Lent.ensures.count in
    let told = sym (c.take_back.ensures.tells ∙ c.tell_starved-in-Lent.ensures.tells) in
    let log = c.take_back.ensures.log ∙ c.tell_starved-in-Lent.ensures.log in
    steps_from before mid c.feed-starved.new.target back
    (reads_piece named c.args.c c.args.room now_due (λ tells. c.read_into.ensures.back (told ∙ tells)) piece some fits
    (λ tells. rw is (log ∙ c.in-Lent.ensures.log (told ∙ tells))) c.feed-starved.ensures))

pub returns-in-End : goal.returns-in-End
returns-in-End g c = λ named before lacks due.
    (let lent = c.read_into.new.lent in
    let still = lacks_after c.args.c c.args.lent lent before c.args.target.now c.read_into.ensures.from c.read_into.ensures.front lacks in
    let long : length c.args.ended.now ≡ 64 = search rules in
    steps_to before c.return_room-in-End.new.self (c.return_room-in-End.ensures.same before still)
    (elim c.in-End.is [
      | inl is ↦ reads_end named c.args.c c.args.room due c.read_into.ensures.back End c.requires.in_range long refl
          (λ tells. rw is at (c.read_into.ensures.log tells))
      | inr is ↦ reads_end named c.args.c c.args.room due c.read_into.ensures.back Fault c.requires.in_range long refl
          (λ tells. rw is at (c.read_into.ensures.log tells))
    ]))

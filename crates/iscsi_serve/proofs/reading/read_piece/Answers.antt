use Rattle.std.proofs.Common.{◌≡◌, ◌<◌, ◌≤◌, length, take, inl, inr, refl, sym, ◌∙◌, arith, rules}
use Rattle.std.proofs.lemmas.List.{length-take-le}
use Rattle.iscsi_ports.specs.Log.{End, Fault}
use Rattle.iscsi_serve.proofs.ReadSteps.{reads_none, reads_piece, reads_end}
use Rattle.iscsi_serve.proofs.reading.read_piece.Goals as goal

pub returns-in-Bytes-eq0 : goal.returns-in-Bytes-eq0
returns-in-Bytes-eq0 g c = λ named due.
    reads_none named c.args.c c.args.room due c.read_front.ensures.back
    (λ tells. rw c.in-Bytes-eq0.field-0-test at (c.in-Bytes-eq0.ensures.log tells))

pub returns-in-Bytes : goal.returns-in-Bytes
returns-in-Bytes g c = λ named due.
    (let within : c.in-Bytes.count ≤ length c.read_front.new.buffer =
    omega (arith, c.in-Bytes.ensures.count, c.read_front.ensures.long, c.requires.room) in
    let piece = take c.in-Bytes.count c.read_front.new.buffer in
    let count : length piece ≡ c.in-Bytes.count = length-take-le c.in-Bytes.count c.read_front.new.buffer within in
    let below : 0 < c.in-Bytes.count = search rules in
    let some : 0 < length piece = omega (arith, below, count) in
    let fits : length piece ≤ c.args.room = omega (arith, count, c.in-Bytes.ensures.count) in
    let told = sym c.tell_starved.ensures.tells in
    let log = c.tell_starved.ensures.log in
    reads_piece named c.args.c c.args.room due (λ tells. c.read_front.ensures.back (told ∙ tells)) piece some fits
    (λ tells. log ∙ c.in-Bytes.ensures.log (told ∙ tells)) c.feed-starved.ensures)

pub returns-in-Lent : goal.returns-in-Lent
returns-in-Lent g c = λ named due.
    (let is = c.as_slice.ensures in
    let piece = c.as_slice.result.now in
    let some : 0 < length piece = rw is c.in-Lent.ensures.some in
    let fits : length piece ≤ c.args.room = rw is c.in-Lent.ensures.count in
    let told = sym (c.take_back.ensures.tells ∙ c.tell_starved-in-Lent.ensures.tells) in
    let log = c.take_back.ensures.log ∙ c.tell_starved-in-Lent.ensures.log in
    reads_piece named c.args.c c.args.room due (λ tells. c.read_front.ensures.back (told ∙ tells)) piece some fits
    (λ tells. rw is (log ∙ c.in-Lent.ensures.log (told ∙ tells))) c.feed-starved-in-Lent.ensures)

pub returns-in-End : goal.returns-in-End
returns-in-End g c = λ named due.
    (let long : length c.args.ended.now ≡ 64 = search rules in
    elim c.in-End.is [
      | inl is ↦ reads_end named c.args.c c.args.room due c.read_front.ensures.back End c.requires.in_range long refl
          (λ tells. rw is at (c.read_front.ensures.log tells))
      | inr is ↦ reads_end named c.args.c c.args.room due c.read_front.ensures.back Fault c.requires.in_range long refl
          (λ tells. rw is at (c.read_front.ensures.log tells))
    ])

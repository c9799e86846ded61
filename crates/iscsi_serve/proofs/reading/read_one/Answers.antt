use Rattle.std.proofs.Common.{◌≡◌, arith}
use Rattle.iscsi_serve.proofs.Goings.{no_read}
use Rattle.iscsi_serve.proofs.Keeping.{keeps_same}
use Rattle.iscsi_serve.proofs.reading.read_one.Goals as goal

pub returns-then-room-eq0 : goal.returns-then-room-eq0
returns-then-room-eq0 g c =
    let none : c.room_for-room.result ≡ 0 = omega (arith, c.if-room-eq0.true) in
    record { keeps = keeps_same _ _ _; goes = λ tells. no_read _ _ _ c.args.named.now c.args.c (c.room_for-room.ensures.none none) }

use Rattle.std.proofs.Common.{◌<◌, length, arith}
use Rattle.iscsi_connection.specs.Rooms.{filled_in}
use Rattle.iscsi_target.proofs.Pieces.{takes_piece}
use Rattle.iscsi_target.proofs.Rooms.{kept_in_room, lacking_links, lacking_reads}
use Rattle.iscsi_target.proofs.target.Target.feed_room.Goals as goal

pub returns : goal.returns
returns g c = λ before lacks.
    (let at = c.args.c in
    let now = c.args.self.now in
    let lent = c.args.lent in
    let in_range = c.requires.in_range in
    let lt : at < length before.links = omega (arith, c.take_room.ensures.count, lacking_links before now at lent lacks, in_range) in
    takes_piece before c.take_room.new.self c.take_filled.new.self at (filled_in lent c.args.count) c.take_filled.result in_range lt
    (lacking_reads before now at lent lacks c.requires.reads)
    (kept_in_room before now c.take_room.new.self at lent c.args.count lacks c.take_room.ensures.same)
    c.take_filled.ensures)

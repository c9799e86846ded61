use Rattle.std.proofs.Common.{◌<◌, length, arith}
use Rattle.iscsi_target.proofs.Rooms.{lacking_links, reads_open, returned_room}
use Rattle.iscsi_target.proofs.target.Target.return_room.Goals as goal

pub returns-clause-same : goal.returns-clause-same
returns-clause-same g c = λ before lacks.
    (let lt : c.args.c < length before.links =
    omega (arith, c.take_room.ensures.count, lacking_links before c.args.self.now c.args.c c.args.lent lacks, c.requires.in_range) in
    returned_room before c.args.self.now c.take_room.new.self c.args.c c.args.lent lt lacks c.take_room.ensures.same)

pub returns-clause-still : goal.returns-clause-still
returns-clause-still g c =
    let lt : c.args.c < length c.args.self.now.links = omega (arith, c.take_room.ensures.count, c.requires.in_range) in
    reads_open c.args.self.now c.take_room.new.self c.args.c _ lt c.take_room.ensures.same c.requires.reads

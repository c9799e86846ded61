use Rattle.std.proofs.Common.{rules, ◌≡◌, ◌<◌, length, true, false, Some, sym, ap, ◌∙◌, arith}
use Rattle.iscsi_world.specs.World.{is_login}
use Rattle.iscsi_world.specs.Machine.{link_at}
use Rattle.iscsi_world.proofs.Apart.{part_login}
use Rattle.iscsi_world.proofs.Asking.{login_there, still_reading}
use Rattle.iscsi_world.proofs.Doing.{does_starved}
use Rattle.iscsi_world.proofs.Frames.{takes_closed, takes_login, takes_starved}
use Rattle.iscsi_world.proofs.Heavier.{closed_loads, logged_in_loads}
use Rattle.iscsi_world.proofs.Moving.{own_self, closed_moves, starved_moves, logged_in_moves, moves_as, moves_starved}
use Rattle.iscsi_connection.specs.Arriving.{frame_of}
use Rattle.iscsi_target.proofs.target.Target.enter.Goals as goal

pub returns-in-Ok : goal.returns-in-Ok
unfolding is_login
returns-in-Ok g c =
    let machine = c.args.self.now in
    let after = c.log_in.new.self in
    let frame = c.in-Whole.frame in
    let logs : is_login frame ≡ true = search rules in
    let there = login_there (link_at machine c.args.c).phase c.requires.logs_in in
    let lt : c.args.c < length machine.links = (let below = c.requires.in_range in omega (arith, c.log_in.ensures.count)) in
    let is = c.in-Ok.ensures.ok there.0 there.1 in
    rw c.in-Whole.is (record {
      takes = takes_login machine after c.args.c frame there.0 c.requires.in_range there.1 logs is;
      moves = moves_as c.args.c _ machine _ after is (logged_in_moves machine c.args.c there.0 frame lt (still_reading _ c.requires.logs_in));
      part = part_login c.args.c machine after c.requires.logs_in;
      loads = λ whole. logged_in_loads machine after c.args.c there.0 frame lt is;
    })

pub returns-in-Err : goal.returns-in-Err
returns-in-Err g c =
    let machine = c.args.self.now in
    let after = c.starve.new.self in
    let named = ap Some (sym c.starve.ensures.names) in
    let reads = still_reading _ c.requires.logs_in in
    let lt : c.args.c < length machine.links = (let below = c.requires.in_range in omega (arith, c.log_in.ensures.count)) in
    let is = c.starve.ensures.closed ∙ c.in-Err.ensures.err in
    rw c.in-Whole.is (record {
      takes = does_starved _ _ _ _ _ _ _ named (takes_starved machine after c.args.c c.in-Whole.frame c.requires.in_range reads is);
      moves = moves_starved c.args.c _ _ _ _ named
          (moves_as c.args.c _ machine _ after is (starved_moves c.args.c machine c.args.c lt reads (own_self c.args.c machine)));
      part = part_login c.args.c machine after c.requires.logs_in;
      loads = λ whole. closed_loads 1 machine after c.args.c lt is;
    })

pub returns : goal.returns
unfolding is_login
returns g c =
    let machine = c.args.self.now in
    let after = c.close.new.self in
    let other : is_login (frame_of c.args.arrived.now) ≡ false = search rules in
    let there = login_there (link_at machine c.args.c).phase c.requires.logs_in in
    let lt : c.args.c < length machine.links = (let below = c.requires.in_range in omega (arith, c.close.ensures.count)) in
    let is = c.close.ensures.closed in
    record {
      takes = takes_closed machine after c.args.c (frame_of c.args.arrived.now) there.0 c.requires.in_range there.1 other is;
      moves = moves_as c.args.c _ machine _ after is
          (closed_moves c.args.c machine c.args.c lt (still_reading _ c.requires.logs_in) (own_self c.args.c machine));
      part = part_login c.args.c machine after c.requires.logs_in;
      loads = λ whole. closed_loads 1 machine after c.args.c lt is;
    }

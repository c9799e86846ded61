use Rattle.std.proofs.Common.{Some, sym, ap, ◌∙◌, subst}
use Rattle.iscsi_world.specs.Machine.{Machine, closed}
use Rattle.iscsi_world.specs.Serving.{TakesBytes, first_starved, kept_piece}
use Rattle.iscsi_target.proofs.Bytes.{unpacked, unpack_starved}
use Rattle.iscsi_target.proofs.target.Target.take_all.Goals as goal

pub returns-in-Ok : goal.returns-in-Ok
returns-in-Ok g c = subst (λ (m : Machine). TakesBytes c.args.c (first_starved c.take_frames.result) m c.take_frames.new.self)
    (unpacked c.args.c c.args.self.now c.unpack.new.self c.args.piece.now c.as_slice.result.now c.requires.in_range c.unpack.ensures.count
    c.in-Ok.ensures.none (c.as_slice.ensures.value ∙ c.in-Ok.ensures.bytes)) c.take_frames.ensures

pub returns-in-Err : goal.returns-in-Err
returns-in-Err g c =
    let kept = kept_piece c.args.c c.args.piece.now c.args.self.now in
    subst (λ k. TakesBytes c.args.c (Some k) kept c.starve.new.self) (sym c.starve.ensures.names)
    (unpack_starved c.args.c c.args.self.now c.starve.new.self c.args.piece.now c.requires.in_range c.unpack.ensures.count c.requires.reads c.requires.whole
    (c.starve.ensures.closed ∙ ap (λ (m : Machine). closed m c.args.c) c.in-Err.ensures.err))

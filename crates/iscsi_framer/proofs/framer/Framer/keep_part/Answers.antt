use Rattle.std.proofs.Common.{arith}
use Rattle.iscsi_framer.proofs.Fronts.{no_header_long}
use Rattle.iscsi_framer.proofs.Whole.{no_header_frame, short_with}
use Rattle.iscsi_framer.proofs.framer.Framer.keep_part.Goals as goal

pub returns-then-piece-had-clause-part : goal.returns-then-piece-had-clause-part
returns-then-piece-had-clause-part c =
    let short = short_with c.self.inside.header.items c.self.inside.behind c.args.self.now c.args.piece.now c.self.invariant c.self.view_is (omega arith) in
    λ e. (no_header_frame _ short, no_header_long _ short)

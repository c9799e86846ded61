use Rattle.std.proofs.Common.{◌∙◌, arith}
use Rattle.iscsi_pdu.proofs.Fields.{fields, not_long}
use Rattle.iscsi_framer.proofs.Fronts.{long_alike}
use Rattle.iscsi_framer.proofs.Taking.{Begun, no_whole_frame}
use Rattle.iscsi_framer.proofs.framer.Framer.keep_more.Goals as goal

pub returns-clause-part : goal.returns-clause-part
returns-clause-part c =
    let now = c.args.self.now in
    let header = c.in-Some.header in
    let there = c.in-Some.ensures.some.1 in
    let is = c.in-Some.ensures.some.0 in
    let f = fields now header is in
    let b : Begun now header = record { there = there; header_is = is; short = omega arith; within = omega (arith, f.framed) } in
    λ e. (no_whole_frame now header c.args.piece.now b (omega arith), long_alike now c.args.piece.now there ∙ not_long now header is (omega arith))

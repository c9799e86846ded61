use Rattle.std.proofs.Common.{List, length, ap, sym, ◌∙◌, arith}
use Rattle.iscsi_pdu.specs.Frames.{Frame}
use Rattle.iscsi_requests.specs.Drained.{Drained}
use Rattle.iscsi_requests.proofs.Unread.{judged_brought, fed_brought}
use Rattle.iscsi_requests.proofs.transfers.Transfers.feed_drained.Goals as goal

pub feed_drained_by-requires : goal.feed_drained_by-requires
feed_drained_by-requires c =
    judged_brought c.args.self.now.drains c.args.frame.now _ c.len.result (sym (ap (λ (f : Frame). f.header) c.frame.view_is))
    (omega (arith, c.len.ensures, c.frame.inside.body.ok.0, ap (λ (f : Frame). length f.body) c.frame.view_is)) ∙ c.requires

pub returns : goal.returns
returns c =
    c.feed_drained_by.ensures
    ∙ ap (λ (l : List Drained). record c.args.self.now { drains = l })
    (fed_brought c.args.self.now.drains c.args.frame.now _ c.len.result (sym (ap (λ (f : Frame). f.header) c.frame.view_is))
    (omega (arith, c.len.ensures, c.frame.inside.body.ok.0, ap (λ (f : Frame). length f.body) c.frame.view_is)))

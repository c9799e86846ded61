use Rattle.std.proofs.Common.{length, ap, ◌∙◌, arith}
use Rattle.iscsi_pdu.specs.Frames.{Frame}
use Rattle.iscsi_transfer.proofs.Blank.{brought_is, fault_brought}
use Rattle.iscsi_transfer.proofs.progress.Progress.accept.Goals as goal

pub accept_by-requires : goal.accept_by-requires
accept_by-requires c = record {
  lawful = fault_brought c.args.self.now c.args.out.now _ c.len.result (ap (λ (f : Frame). f.header) c.out.view_is)
      (omega (arith, c.len.ensures, c.out.inside.body.ok.0, ap (λ (f : Frame). length f.body) c.out.view_is))
      ∙ c.requires.lawful;
}

pub returns : goal.returns
returns c =
    c.accept_by.ensures
    ∙ brought_is c.args.self.now c.args.out.now _ _ (ap (λ (f : Frame). f.header) c.out.view_is)
    (omega (arith, c.len.ensures, c.out.inside.body.ok.0, ap (λ (f : Frame). length f.body) c.out.view_is))
